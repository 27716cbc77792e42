pub mod Maps
pub mod Lending
