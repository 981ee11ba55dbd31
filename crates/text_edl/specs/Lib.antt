pub mod Timecode
pub mod EditList
pub mod Steps
pub mod Faults
pub mod Examples
