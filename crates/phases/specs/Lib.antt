pub mod Calls
pub mod ThreePhase
pub mod Laws
pub mod Examples
