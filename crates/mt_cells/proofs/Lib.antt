pub mod Semilattice
pub mod StampSets
pub mod Presences
pub mod Greatest
pub mod EqualRegisters
