pub mod Overlap
pub mod Sweep
