use Rattle.std.proofs.Common.{take, All}
use Rattle.mk_walk.specs.EarlierBonds.{IsElsewhere}
use Rattle.mk_walk.proofs.earlier_bonds.anchor_of.Given as goal

abbrev pub invariant-loop-number : goal.invariant-loop-number
invariant-loop-number l = All (IsElsewhere l.graph l.first) (take l.number-index l.number-items)
