pub mod Names
pub mod Asked
pub mod QueryText
pub mod Saved
pub mod Named
pub mod SavedPending
pub mod StoredRows
pub mod Restored
