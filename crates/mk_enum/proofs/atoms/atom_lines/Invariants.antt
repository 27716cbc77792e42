use Rattle.std.proofs.Common.{◌≡◌, map, take}
use Rattle.mk_enum.specs.StructureTables.{atom_drawn}
use Rattle.mk_enum.proofs.atoms.atom_lines.Given as goal

abbrev pub invariant-loop-atom : goal.invariant-loop-atom
invariant-loop-atom l = l.lines.items ≡ map atom_drawn (take l.atom-index l.atoms)
