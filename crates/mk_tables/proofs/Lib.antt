pub mod BlockLemmas
pub mod TableLemmas
pub mod FaultLemmas
pub mod MolfileLemmas
pub mod TableLawLemmas
pub mod TableFactLemmas
pub mod ReaderLemmas
pub mod StepLemmas
mod TableOnLiterals
pub mod KeptPropertyLemmas
pub mod KeptLineLemmas
pub mod KeptTablesLemmas
pub mod ForCallers
