pub mod Ranges
pub mod Values
pub mod Preserved
pub mod Simulates
pub mod Laws
pub mod Tail
pub mod Accepting
pub mod Examples
