-- What proofs of the crates above use of this one.
--     one_enumeration, some_enumeration     from a place on a query has one enumeration
pub use Rattle.mk_enum.proofs.AllStructuresLemmas.{one_enumeration, some_enumeration}
