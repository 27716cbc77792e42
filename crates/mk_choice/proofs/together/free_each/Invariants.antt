use Rattle.std.proofs.Common.{◌≡◌, ◌<◌, ℕ, cond, length}
use Rattle.std.specs.Prelude.{slice_index}
use Rattle.mk_choice.specs.Together.{is_capped}
use Rattle.mk_choice.proofs.together.free_each.Given as goal

abbrev pub invariant-loop-i : goal.invariant-loop-i
invariant-loop-i l = record { size : length l.free ≡ 32; each : (j : ℕ) → j < l.i → slice_index l.free j ≡ cond (is_capped l.caps j) 0 (slice_index l.served j) }
