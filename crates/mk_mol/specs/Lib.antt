pub mod Checks
pub mod FirstFault
pub mod Filled
pub mod Answers
pub mod Laws
pub mod Search
pub mod Putting
