pub mod Emergency
pub mod Laws
pub mod NearMisses
