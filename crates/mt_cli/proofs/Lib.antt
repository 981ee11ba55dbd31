pub mod Telling
pub mod Stopping
