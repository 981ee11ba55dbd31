pub mod Title
pub mod Marker
pub mod CueLines
pub mod Faults
pub mod Laws
pub mod Examples
