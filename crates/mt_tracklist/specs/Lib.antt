pub mod Faults
pub mod Equal
pub mod Ordered
pub mod Skipping
pub mod Chain
pub mod Links
pub mod Rising
pub mod Examples
