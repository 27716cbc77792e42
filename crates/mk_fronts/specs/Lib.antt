pub mod Fronts
pub mod Asks
pub mod Told
