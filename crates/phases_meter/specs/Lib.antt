pub mod State
pub mod Machine
pub mod Parts
pub mod Settings
pub mod Fresh
pub mod Holding
pub mod Laws
pub mod NearMisses
