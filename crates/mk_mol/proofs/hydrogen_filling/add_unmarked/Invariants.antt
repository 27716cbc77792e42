use Rattle.std.proofs.Common.{◌≡◌, ◌++◌, take}
use Rattle.std.specs.Prelude.{map}
use Rattle.mk_mol.specs.Putting.{unmarked}
use Rattle.mk_mol.proofs.hydrogen_filling.add_unmarked.Given as goal

abbrev pub invariant-loop-i : goal.invariant-loop-i
invariant-loop-i l = l.bonds.items ≡ l.fn.bonds.items ++ map unmarked (take l.i l.more)
