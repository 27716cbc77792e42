use Rattle.mk_drill.proofs.OneDrillLemmas.{one_drill}
use Rattle.mk_drill.proofs.laws.one_drill.Goals as goal

pub returns : goal.returns
returns c = one_drill c.one_query.ensures
