use Rattle.std.proofs.Common.{◌≡◌}
use Rattle.mk_expand.specs.OpenGraphs.{bare_atoms_of, loosened}
use Rattle.mk_expand.proofs.joining.open_atoms.Given as goal

abbrev pub invariant-loop-i : goal.invariant-loop-i
invariant-loop-i l = l.out.items ≡ loosened l.template l.pieces 1 (bare_atoms_of l.template l.pieces l.i)
