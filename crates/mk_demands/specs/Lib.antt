pub mod Numbers
pub mod Bonds
pub mod BondSearch
pub mod Values
pub mod Charges
pub mod ChargePutting
