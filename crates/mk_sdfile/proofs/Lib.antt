pub mod MoleculeFileLemmas
pub mod SdfileLemmas
pub mod SdfileStepsLemmas
pub mod SdfileFactLemmas
pub mod SdfileTextLemmas
pub mod ForCallers
