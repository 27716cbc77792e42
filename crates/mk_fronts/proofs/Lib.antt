pub mod ToldLemmas
pub mod AsksLemmas
pub mod KnownLemmas
pub mod FrontsLemmas
