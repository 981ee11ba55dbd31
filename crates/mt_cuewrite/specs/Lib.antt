pub mod Head
pub mod File
pub mod Alike
pub mod Faults
pub mod Sizes
