use Rattle.std.proofs.Common.{◌≤◌, take, length}
use Rattle.std.specs.Prelude.{IfSome}
use Rattle.mk_walk.specs.Candidates.{AreBonded, IsLeastEnd}
use Rattle.mk_walk.proofs.candidates.least_end_above.Given as goal

abbrev pub invariant-loop-number : goal.invariant-loop-number
invariant-loop-number l = IsLeastEnd l.mol.bonds l.atom (take l.number-index l.number-items) l.above l.least × IfSome l.least (λ a. a ≤ length l.mol.atoms) × IfSome l.least (AreBonded l.mol l.atom)
