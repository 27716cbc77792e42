-- What proofs of the crates above use of this one.
pub use Rattle.mk_kept.proofs.KeptRowsLemmas.{all_of_each}
pub use Rattle.mk_kept.proofs.NamedLemmas.{named_of, place_is_kept, search_is_held, some_same}
pub use Rattle.mk_kept.proofs.NamesLemmas.{name_ascii, some_bytes}
pub use Rattle.mk_kept.proofs.OneQueryLemmas.{HasQueryLaws, one_query_of_text, one_said}
pub use Rattle.mk_kept.proofs.SavedLemmas.{below_all, none_above_greatest}
pub use Rattle.mk_kept.proofs.SavedPendingLemmas.{saved_alone}
pub use Rattle.mk_kept.proofs.SavedRowsLemmas.{drop_cursor_goes_on, drop_query_goes_on, later_cursor_goes_on, new_cursor_goes_on, put_query_goes_on}
pub use Rattle.mk_kept.proofs.StoredRowsLemmas.{one_first_bad, reads_not_bad}
