pub mod Laws
pub mod Values
pub mod Restarts
pub mod Sessions
