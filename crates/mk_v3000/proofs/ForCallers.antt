-- The lemmas that proofs of crates above cite.
--     exact-v3000                   V3000 tables are read exactly
--     kept_lines_are_the_table      without the CR bytes at the ends of lines they are the same
--     keeps, few_properties         what each of them keeps
pub use Rattle.mk_v3000.proofs.LiveLemmas.{exact-v3000}
pub use Rattle.mk_v3000.proofs.KeptLemmas.{kept_lines_are_the_table}
pub use Rattle.mk_v3000.proofs.FactLemmas.{keeps, few_properties}
