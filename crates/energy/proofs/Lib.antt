pub mod Sums
pub mod Joins
pub mod NearMisses
