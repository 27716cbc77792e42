pub mod QueriesLemmas
