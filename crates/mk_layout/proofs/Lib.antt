pub mod LaidLemmas
pub mod BondLemmas
pub mod LabelLemmas
pub mod BlockLemmas
pub mod SlotLemmas
