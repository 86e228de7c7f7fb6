pub mod Numbers
pub mod Formats
pub mod Stores
pub mod Examples
