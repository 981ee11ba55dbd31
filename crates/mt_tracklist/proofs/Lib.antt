pub mod Growing
pub mod Order
pub mod Sorted
pub mod Skipping
pub mod Equal
pub mod Elements
pub mod Links
pub mod Linking
