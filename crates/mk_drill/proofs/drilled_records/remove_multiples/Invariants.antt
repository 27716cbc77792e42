use Rattle.std.proofs.Common.{◌≡◌}
use Rattle.mk_drill.specs.DrilledRecords.{left_below}
use Rattle.mk_drill.proofs.drilled_records.remove_multiples.Given as goal

abbrev pub invariant-loop-k : goal.invariant-loop-k
invariant-loop-k l = l.library.records ≡ left_below l.k l.initial.library.records
