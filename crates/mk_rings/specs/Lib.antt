pub mod Forests
pub mod Growing
pub mod Walks
pub mod Rounds
pub mod Bridges
pub mod Reach
