pub mod MoleculeFile
pub mod Sdfile
pub mod SdfileReading
pub mod SdfileSteps
