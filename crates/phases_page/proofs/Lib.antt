pub mod Example
pub mod Held
pub mod RoundTrip
pub mod Ranges
pub mod Printed
pub mod Traces
pub mod NearMisses
