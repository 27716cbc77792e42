use Rattle.mk_logic.proofs.RangeTextsLemmas.{one_range}
use Rattle.mk_logic.proofs.range_laws.one_range.Goals as goal

pub returns : goal.returns
returns c = one_range
