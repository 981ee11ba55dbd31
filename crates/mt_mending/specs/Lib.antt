pub mod Mending
pub mod Examples
pub mod Before
