pub mod Named
pub mod Sums
pub mod Examples
