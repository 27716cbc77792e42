use Rattle.std.proofs.Common.{◌≡◌, ◌+◌, ◌++◌, length, replicate}
use Rattle.mk_mol.specs.Filled.{hydrogen_atom, hydrogen_bonds}
use Rattle.mk_mol.proofs.hydrogen_filling.add_to.Given as goal

abbrev pub invariant-loop : goal.invariant-loop
invariant-loop l =
    (l.atoms.items ≡ l.fn.atoms.items ++ replicate l.counter hydrogen_atom)
    × (l.edges.items ≡ l.fn.edges.items ++ hydrogen_bonds (length l.fn.atoms.items + 1) (replicate l.counter l.owner))
