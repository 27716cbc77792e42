use Rattle.std.proofs.Common.{take}
use Rattle.mk_query.specs.LastValues.{AreValuesPut}
use Rattle.mk_query.proofs.values.put_values.Given as goal

abbrev pub invariant-loop-pair : goal.invariant-loop-pair
invariant-loop-pair l = AreValuesPut (take l.pair-index l.pairs) l.fn.values.items l.values.items
