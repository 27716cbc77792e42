-- What proofs of the crates above use of this one.
pub use Rattle.mk_props.proofs.PropertyLemmas.{properties_are_read}
