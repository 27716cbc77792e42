pub mod Members
pub mod Table
pub mod Begins
pub mod Text
pub mod Rows
pub mod Answer
