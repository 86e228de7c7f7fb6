pub mod Interface
pub mod Laws
pub mod Request
pub mod RequestLaws
pub mod Energy
pub mod Tariff
