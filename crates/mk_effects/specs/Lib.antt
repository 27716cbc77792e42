pub mod Hits
pub mod Match
pub mod Searching
pub mod Structures
pub mod Ticks
