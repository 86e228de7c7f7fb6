pub mod Put
pub mod ThreePhase
