use Rattle.std.proofs.Common.{◌≡◌, ◌+◌, ◌++◌, drop}
use Rattle.mk_enum.specs.StructureTables.{entries_from}
use Rattle.mk_enum.proofs.entries.entries_of.Given as goal

abbrev pub invariant-loop-i : goal.invariant-loop-i
invariant-loop-i l = l.props ++ entries_from (l.i + 1) (drop l.i l.atoms) ≡ entries_from 1 l.atoms
