use Rattle.std.specs.Prelude.{All}
use Rattle.mk_mol.specs.Putting.{IsSound}
use Rattle.mk_mol.proofs.WrittenAtomsLemmas.{AreWrittenTo}
use Rattle.mk_mol.proofs.written_atoms.written_atoms.Given as goal

abbrev pub invariant-loop-i : goal.invariant-loop-i
invariant-loop-i l = AreWrittenTo l.table l.i l.atoms.items × All IsSound l.atoms.items
