pub mod Refusals
pub mod Charges
pub mod Bills
pub mod Laws
pub mod NearMisses
