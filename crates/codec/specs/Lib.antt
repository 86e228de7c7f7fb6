pub mod BigEndian
pub mod Format
pub mod Lawful
pub mod Examples
