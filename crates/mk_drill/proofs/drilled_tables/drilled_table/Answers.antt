use Rattle.mk_drill.proofs.DrawsLemmas.{drilled_more, drilled_none}
use Rattle.mk_drill.proofs.drilled_tables.drilled_table.Goals as goal

pub loop-x-init : goal.loop-x-init
loop-x-init c = drilled_none _ _ c.in_ok-table.ensures

pub loop-x-preserved : goal.loop-x-preserved
loop-x-preserved c = drilled_more _ _ _ _ _ _ _ c.loop-x-test.true c.loop-x.invariant c.draw_below-draw.ensures.number c.draw_below-draw.ensures.state c.in_ok-substitute.ensures.table
