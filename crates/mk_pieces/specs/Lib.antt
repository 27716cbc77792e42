pub mod Kept
pub mod Fragments
pub mod Rooms
pub mod Begun
pub mod Drawn
pub mod Names
pub mod Laws
