-- What proofs of the crates above use of this one.
--     which group's range is asked for, and counts by the place of their group     AskedLemmas
--     a text is a range where the computation gives it     RangeTextsLemmas
--     some of a list, by its place     LogicLemmas of mk_model
pub use Rattle.mk_model.proofs.ForCallers.{passes_some, some_passes}
pub use Rattle.mk_logic.proofs.AskedLemmas.{asked_found, asked_given, filled_is, group_at, sites_is}
pub use Rattle.mk_logic.proofs.RangeTextsLemmas.{range_is_read}
