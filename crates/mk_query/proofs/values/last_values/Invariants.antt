use Rattle.std.proofs.Common.{take}
use Rattle.mk_query.specs.Drawn.{pairs_by}
use Rattle.mk_query.specs.LastValues.{AreValuesPut, pairs_of}
use Rattle.mk_query.proofs.values.last_values.Given as goal

abbrev pub invariant-loop-property : goal.invariant-loop-property
invariant-loop-property l = AreValuesPut (pairs_by (pairs_of l.kind) (take l.property-index l.props)) l.initial.values.items l.values.items
