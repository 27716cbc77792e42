use Rattle.std.proofs.Common.{take}
use Rattle.mk_rings.proofs.MoleculeLemmas.{HaveMarks}
use Rattle.mk_rings.proofs.molecules.marked_bonds.Given as goal

abbrev pub invariant-loop-b : goal.invariant-loop-b
invariant-loop-b l = HaveMarks (take l.b l.bonds) l.rings.items l.aromatics.items l.marked.items
