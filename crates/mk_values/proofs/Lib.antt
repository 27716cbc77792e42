pub mod TableMoleculeLemmas
pub mod FileLemmas
pub mod EditLemmas
pub mod ListingLemmas
pub mod DrillLemmas
pub mod ForCallers
