use Rattle.std.proofs.Common.{◌≡◌, ◌%◌, take}
use Rattle.mk_drill.specs.Drill.{weighed_from}
use Rattle.mk_drill.proofs.line.fold_of.Given as goal

abbrev pub invariant-loop-i : goal.invariant-loop-i
invariant-loop-i l = l.folded ≡ weighed_from 1 (take l.i l.hits) % 1000000
