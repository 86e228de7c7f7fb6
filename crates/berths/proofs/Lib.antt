pub mod Sharing
pub mod NearMisses
pub mod Loops
