pub mod Hydrogens
