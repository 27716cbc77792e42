pub mod CuttingLemmas
pub mod SpeakingLemmas
pub mod TalkingLemmas
pub mod HoldingLemmas
pub mod LawLemmas
