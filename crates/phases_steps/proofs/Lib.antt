pub mod Thresholds
pub mod Samples
pub mod Steps
