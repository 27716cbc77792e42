use Rattle.std.proofs.Common.{◌∷◌, ◌++◌, [], take, All}
use Rattle.mk_walk.specs.Hydrogens.{IsEndTaken}
use Rattle.mk_walk.proofs.free_hydrogens.are_lower_taken.Given as goal

abbrev pub invariant-loop-number : goal.invariant-loop-number
invariant-loop-number l = All (IsEndTaken l.mol (l.first ++ l.a ∷ []) l.m l.y) (take l.number-index l.number-items)
