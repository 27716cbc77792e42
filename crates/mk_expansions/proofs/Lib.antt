pub mod ListingLemmas
pub mod StartsLemmas
pub mod OccurrencesLemmas
pub mod PlainLemmas
pub mod KeptLemmas
