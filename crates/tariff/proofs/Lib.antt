pub mod Costs
pub mod AllRates
pub mod Rows
pub mod NearMisses
