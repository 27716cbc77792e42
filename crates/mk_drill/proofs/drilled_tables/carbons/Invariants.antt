use Rattle.std.proofs.Common.{◌≡◌, replicate}
use Rattle.std.specs.Prelude.{codes}
use Rattle.mk_drill.specs.Draws.{plain_atom}
use Rattle.mk_drill.proofs.drilled_tables.carbons.Given as goal

abbrev pub invariant-loop-i : goal.invariant-loop-i
invariant-loop-i l = l.atoms ≡ replicate l.i (plain_atom (codes "C"))
