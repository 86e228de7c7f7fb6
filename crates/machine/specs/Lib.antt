pub mod Values
pub mod Sound
pub mod Settings
pub mod Machine
pub mod Fresh
pub mod Holding
pub mod Ranges
pub mod Laws
