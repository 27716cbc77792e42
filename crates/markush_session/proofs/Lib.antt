pub mod RunsLemmas
