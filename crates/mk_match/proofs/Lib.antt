pub mod PlainLemmas
pub mod MapsLemmas
pub mod ForCallers
