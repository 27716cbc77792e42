pub mod EdgeLemmas
pub mod BondLemmas
pub mod ChargePuttingLemmas
pub mod ChargeLemmas
pub mod ForCallers
