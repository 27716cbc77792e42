use Rattle.mk_values.proofs.DrillLemmas.{drill_has_line}
use Rattle.mk_values.proofs.laws.drills_have_lines.Goals as goal

pub returns : goal.returns
returns c = drill_has_line
