use Rattle.std.proofs.Common.{◌≡◌, ◌++◌}
use Rattle.mk_model.specs.Expansions.{chained}
use Rattle.mk_layout.proofs.bonds.put_chained.Given as goal

abbrev pub invariant-loop-j : goal.invariant-loop-j
invariant-loop-j l = l.out.items ≡ l.initial.out.items ++ chained l.bond l.before l.j
