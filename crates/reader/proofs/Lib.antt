pub mod Lines
pub mod Threshold
pub mod Parts
pub mod ThreePhaseRecord
