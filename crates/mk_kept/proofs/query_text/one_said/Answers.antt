use Rattle.mk_kept.proofs.OneQueryLemmas.{one_said}
use Rattle.mk_kept.proofs.query_text.one_said.Goals as goal

pub returns : goal.returns
returns c = one_said (record {
  one_file = c.query_file_is_exact.ensures.one;
  bad = c.query_file_is_exact.ensures.bad;
  one_bad = c.query_file_is_exact.ensures.one_bad;
  one_query = c.one_query.ensures;
  one_fault = c.one_first_fault.ensures;
  no_fault = c.fault_or_query.ensures.not_both;
})
