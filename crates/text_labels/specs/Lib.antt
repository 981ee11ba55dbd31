pub mod Seconds
pub mod Labels
pub mod Reading
pub mod Steps
pub mod Faults
pub mod Laws
pub mod Examples
