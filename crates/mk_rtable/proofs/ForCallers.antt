-- What proofs of the crates above use of this one.
--     one_table, some_table       a query has one table over the molecules of rows
--     table_over, begins_over     the same molecules held otherwise
--     if_ok                       what holds of an answer, in other words
pub use Rattle.mk_rtable.proofs.TableLemmas.{begins_over, one_table, table_over}
pub use Rattle.mk_rtable.proofs.MembersLemmas.{if_ok}
pub use Rattle.mk_rtable.proofs.SomeTableLemmas.{some_table}
