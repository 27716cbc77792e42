use Rattle.std.proofs.Common.{take}
use Rattle.mk_demands.specs.Values.{HaveValues}
use Rattle.mk_demands.proofs.values.have_values.Given as goal

abbrev pub invariant-loop-pair : goal.invariant-loop-pair
invariant-loop-pair l = HaveValues l.low l.high (take l.pair-index l.pairs)
