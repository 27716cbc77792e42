use Rattle.std.proofs.Common.{◌≤◌, ◌*◌, cond}
use Rattle.std.specs.Prelude.{slice_index}
use Rattle.mk_choice.specs.Together.{is_capped, total}
use Rattle.mk_choice.proofs.together.served_to_ends.Given as goal

abbrev pub invariant-loop-i : goal.invariant-loop-i
invariant-loop-i l = l.sum ≤ 512 → total (λ i. cond (is_capped l.caps i) (slice_index l.caps i * slice_index l.served i) 0) l.i ≤ l.sum
