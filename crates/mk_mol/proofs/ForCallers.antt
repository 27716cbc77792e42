-- What proofs of the crates above use of this one.
--     one_fault, no_fault      a table has at most one first fault, and none where every check passes
--     one_filled               it has at most one filled molecule, where the marks determine the bonds
--     keeps_text               one that passes every check keeps its text
pub use Rattle.mk_mol.proofs.LawLemmas.{one_fault, no_fault, one_filled, keeps_text}
