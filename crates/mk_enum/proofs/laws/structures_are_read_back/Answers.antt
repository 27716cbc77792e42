use Rattle.mk_enum.proofs.OwnQueryLemmas.{read_back}
use Rattle.mk_enum.proofs.laws.structures_are_read_back.Goals as goal

pub returns : goal.returns
returns c = read_back c.template_is_its_own_expansion.ensures c.passed_queries_fit.ensures c.fault_or_query.ensures.not_both
