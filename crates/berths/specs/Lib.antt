pub mod Allotments
pub mod Counting
pub mod Laws
pub mod NearMisses
