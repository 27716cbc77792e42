pub mod Paths
pub mod Counting
pub mod Covering
