pub mod Symbols
pub mod Letters
pub mod Valences
