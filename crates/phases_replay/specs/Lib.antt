pub mod Input
pub mod Replay
pub mod Laws
pub mod Examples
