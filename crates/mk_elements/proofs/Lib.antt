pub mod LetterLemmas
pub mod TableLemmas
pub mod ForCallers
