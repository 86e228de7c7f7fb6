pub mod Refusals
pub mod Energy
pub mod Days
pub mod Joins
pub mod Laws
pub mod NearMisses
