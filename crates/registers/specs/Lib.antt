pub mod Register
pub mod Alarms
pub mod Laws
