use Rattle.mk_walk.proofs.HydrogensLemmas.{IsDueTo}
use Rattle.mk_walk.proofs.hydrogens.due_at.Given as goal

abbrev pub invariant-loop-x : goal.invariant-loop-x
invariant-loop-x l = IsDueTo l.graph l.host l.atom l.x l.due
