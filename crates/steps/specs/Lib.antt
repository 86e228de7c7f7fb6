pub mod Scalars
pub mod Step
