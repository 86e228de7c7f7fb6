pub mod Kept
pub mod Laws
pub mod Asked
pub mod RequestLaws
pub mod Places
