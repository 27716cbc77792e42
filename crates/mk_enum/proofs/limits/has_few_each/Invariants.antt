use Rattle.mk_enum.specs.Writable.{HasFewEach}
use Rattle.mk_enum.proofs.limits.has_few_each.Given as goal

abbrev pub invariant-loop-i : goal.invariant-loop-i
invariant-loop-i l = HasFewEach l.i l.graph.bonds
