pub mod Effects
pub mod Answers
pub mod Lines
pub mod Files
pub mod Fails
pub mod QueryFiles
pub mod MoleculeFiles
pub mod Findings
