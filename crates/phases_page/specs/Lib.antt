pub mod Layout
pub mod Laws
pub mod AccountPage
pub mod Demand3
pub mod Examples
pub mod NearMisses
