pub mod Writable
pub mod StructureTables
pub mod Texts
pub mod Enumerations
pub mod Steps
pub mod Laws
pub mod ReadingBack
