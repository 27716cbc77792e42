pub mod Completions
pub mod Laws
pub mod Fronts
pub mod Alone
pub mod Passing
