pub mod CountLemmas
pub mod AskedLemmas
