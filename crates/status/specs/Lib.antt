pub mod Status
pub mod Step
pub mod Arrays
pub mod Answers
pub mod Laws
