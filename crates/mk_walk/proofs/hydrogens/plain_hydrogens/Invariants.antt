use Rattle.mk_walk.proofs.HydrogensLemmas.{AreListed}
use Rattle.mk_walk.proofs.hydrogens.plain_hydrogens.Given as goal

abbrev pub invariant-loop-x : goal.invariant-loop-x
invariant-loop-x l = AreListed l.graph l.x l.list.items
