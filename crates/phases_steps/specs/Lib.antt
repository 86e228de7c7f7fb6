pub mod Scalars
pub mod Step
pub mod Sample
pub mod Laws
