pub mod Ordering
pub mod Sweeping
