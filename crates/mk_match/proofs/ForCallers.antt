-- What the crates above need.
--     law      the plain program gives the rising list of all hits
pub use Rattle.mk_match.proofs.PlainLemmas.{law}
