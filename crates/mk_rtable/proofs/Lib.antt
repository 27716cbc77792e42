pub mod SlotLemmas
pub mod MembersLemmas
pub mod TableLemmas
pub mod RecordsLemmas
pub mod SomeTableLemmas
pub mod OnLiterals
pub mod AnswerLemmas
pub mod ForCallers
