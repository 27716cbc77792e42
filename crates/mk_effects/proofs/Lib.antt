pub mod HitLinesLemmas
pub mod ListingsLemmas
pub mod MatchLemmas
pub mod SearchingLemmas
pub mod PacedLemmas
pub mod TicksLemmas
