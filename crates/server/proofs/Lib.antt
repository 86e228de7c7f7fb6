pub mod Scan
pub mod Services
pub mod Items
pub mod Laws
pub mod AfterSet
pub mod Kept
pub mod History
