pub mod Marks
pub mod SixRings
pub mod Bare
pub mod Laws
