use Rattle.mk_drill.proofs.DrawsLemmas.{AreDrilled}
use Rattle.mk_drill.proofs.drilled_tables.drilled_table.Given as goal

abbrev pub invariant-loop-x : goal.invariant-loop-x
invariant-loop-x l = AreDrilled l.initial.draws.state l.x l.table l.draws.state
