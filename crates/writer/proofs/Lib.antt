pub mod Lines
pub mod Stored
pub mod ThreePhaseStored
pub mod EveryRecord
