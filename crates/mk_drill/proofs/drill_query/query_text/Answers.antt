use Rattle.std.proofs.Common.{refl}
use Rattle.mk_drill.specs.DrillQuery.{query_text}
use Rattle.mk_drill.proofs.drill_query.query_text.Goals as goal

pub returns : goal.returns
unfolding query_text
returns c = refl
