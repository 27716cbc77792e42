pub mod AskedLemmas
pub mod ForCallers
pub mod RangeTextsLemmas
