pub mod Putting
pub mod Heads
pub mod Sizing
pub mod Marking
pub mod Blocks
pub mod Totals
pub mod Alike
