use Rattle.std.proofs.Common.{◌≤◌}
use Rattle.std.specs.Prelude.{slice_index}
use Rattle.mk_choice.specs.Together.{total}
use Rattle.mk_choice.proofs.together.sum_of.Given as goal

abbrev pub invariant-loop-i : goal.invariant-loop-i
invariant-loop-i l = l.sum ≤ total (slice_index l.numbers) l.i
