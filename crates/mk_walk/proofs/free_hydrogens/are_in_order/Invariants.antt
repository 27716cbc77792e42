use Rattle.std.proofs.Common.{take, All}
use Rattle.mk_walk.specs.Hydrogens.{IsInOrder}
use Rattle.mk_walk.proofs.free_hydrogens.are_in_order.Given as goal

abbrev pub invariant-loop-one : goal.invariant-loop-one
invariant-loop-one l = All (IsInOrder l.mol l.first l.a) (take l.one-index l.hydrogens)
