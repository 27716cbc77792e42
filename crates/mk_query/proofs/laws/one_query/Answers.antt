use Rattle.mk_query.proofs.OneQueryLemmas.{one_query}
use Rattle.mk_query.proofs.laws.one_query.Goals as goal

pub returns : goal.returns
returns c = one_query c.one_range.ensures
