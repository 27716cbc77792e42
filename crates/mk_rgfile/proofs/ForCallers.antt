-- What proofs of the crates above use of this one.
--     bytes without a CR      KeptQueryLemmas
--     query_keeps             what the query of a query file keeps
pub use Rattle.mk_rgfile.proofs.KeptQueryLemmas.{all_no_cr, blank_no_cr, both_no_cr, has_no_cr, no_end}
pub use Rattle.mk_rgfile.proofs.QueryFactLemmas.{query_keeps}
