pub mod NumberLemmas
pub mod FitLemmas
pub mod ForCallers
