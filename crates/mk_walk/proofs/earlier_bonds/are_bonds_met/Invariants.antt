use Rattle.std.proofs.Common.{take, All}
use Rattle.mk_walk.specs.EarlierBonds.{IsMetAt}
use Rattle.mk_walk.proofs.earlier_bonds.are_bonds_met.Given as goal

abbrev pub invariant-loop-number : goal.invariant-loop-number
invariant-loop-number l = All (IsMetAt l.graph l.mol l.first l.a) (take l.number-index l.number-items)
