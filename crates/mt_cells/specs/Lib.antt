pub mod Folds
pub mod Pairs
pub mod Greater
pub mod Marks
pub mod Together
pub mod Laws
