pub mod Entries
pub mod Lists
pub mod Logic
pub mod Property
pub mod Reading
