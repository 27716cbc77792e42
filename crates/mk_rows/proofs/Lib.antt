pub mod RowsLemmas
pub mod ForCallers
