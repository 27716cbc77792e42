use Rattle.std.proofs.Common.{◌≡◌, ◌++◌}
use Rattle.mk_model.specs.Expansions.{copied}
use Rattle.mk_layout.proofs.bonds.put_copied.Given as goal

abbrev pub invariant-loop-j : goal.invariant-loop-j
invariant-loop-j l = l.out.items ≡ l.initial.out.items ++ copied l.bond l.x l.y l.j
