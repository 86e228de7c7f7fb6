pub mod Lines
pub mod Listing
pub mod Laws
pub mod Examples
