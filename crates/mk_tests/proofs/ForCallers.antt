-- What proofs of the crates above use of this one: an atom or a bond accepted, and what stands around it (FitLemmas).
pub use Rattle.mk_tests.proofs.FitLemmas.{alone, around, fits_by, meets_around}
