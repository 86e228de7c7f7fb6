pub mod Places
pub mod Kept
pub mod Life
pub mod NearMisses
