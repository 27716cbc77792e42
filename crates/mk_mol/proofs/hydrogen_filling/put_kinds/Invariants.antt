use Rattle.std.proofs.Common.{◌≡◌, take}
use Rattle.mk_mol.specs.Putting.{kinds_of}
use Rattle.mk_mol.proofs.hydrogen_filling.put_kinds.Given as goal

abbrev pub invariant-loop-j : goal.invariant-loop-j
invariant-loop-j l = take l.j l.kinds ≡ kinds_of l.edges (take l.j l.numbers)
