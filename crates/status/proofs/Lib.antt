pub mod Limiters
pub mod Arrays
pub mod Records
