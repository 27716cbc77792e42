-- What proofs of the crates above use of this one.
--     rows by rising number        RowsLemmas
pub use Rattle.mk_rows.proofs.RowsLemmas.{held_within, item_there, no_item, none_above, none_of, number_is, put_rising, replaced_rising, took, without_none, without_rising}
