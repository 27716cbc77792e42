use Rattle.std.proofs.Common.{◌≡◌, ◌≤◌, ◌*◌, ◌+◌, ◌++◌, length, replicate, take}
use Rattle.mk_mol.specs.Filled.{hydrogen_atom, hydrogen_bonds, owners}
use Rattle.mk_mol.proofs.hydrogen_filling.add_each.Given as goal

-- the last part keeps the numbers of the atoms small
abbrev pub invariant-loop-i : goal.invariant-loop-i
invariant-loop-i l =
    (l.atoms.items ≡ l.fn.atoms.items ++ replicate (length (owners 1 (take l.i l.gains))) hydrogen_atom)
    × (l.edges.items ≡ l.fn.edges.items ++ hydrogen_bonds (length l.fn.atoms.items + 1) (owners 1 (take l.i l.gains)))
    × (length l.atoms.items ≤ length l.fn.atoms.items + 256 * l.i)
