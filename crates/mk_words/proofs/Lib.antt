pub mod CommandLemmas
pub mod CommandPartsLemmas
pub mod StoreWordsLemmas
