pub mod Lists
pub mod Texts
pub mod Chains
pub mod Parts
pub mod Laws
pub mod Examples
