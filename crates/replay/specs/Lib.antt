pub mod Input
pub mod Replay
pub mod Numbers
pub mod Listing
pub mod Laws
pub mod Examples
