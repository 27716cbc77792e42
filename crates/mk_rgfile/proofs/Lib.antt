pub mod QueryLineLemmas
pub mod QueryPartLemmas
pub mod QueryFileLemmas
pub mod QueryLawLemmas
pub mod QueryFactLemmas
pub mod QueryReadingLemmas
pub mod KeptQueryLemmas
pub mod ForCallers
