pub mod Telling
pub mod Mistakes
