pub mod ColumnLemmas
pub mod EntryLemmas
pub mod KindLemmas
pub mod PropertyLemmas
pub mod ForCallers
