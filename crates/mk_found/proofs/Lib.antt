pub mod FindingsLemmas
pub mod QueryFilesLemmas
pub mod FileLineLemmas
