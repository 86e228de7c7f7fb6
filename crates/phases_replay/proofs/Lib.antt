pub mod Records
pub mod Ranges
pub mod Runs
pub mod Inputs
pub mod Examples
pub mod Laws
