use Rattle.std.proofs.Common.{◌≡◌, map, take}
use Rattle.mk_enum.specs.StructureTables.{bond_drawn}
use Rattle.mk_enum.proofs.atoms.bond_lines.Given as goal

abbrev pub invariant-loop-bond : goal.invariant-loop-bond
invariant-loop-bond l = l.lines.items ≡ map bond_drawn (take l.bond-index l.bonds)
