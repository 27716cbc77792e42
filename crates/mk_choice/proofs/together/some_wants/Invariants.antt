use Rattle.std.proofs.Common.{◌≡◌, ◌≤◌, ◌<◌, ℕ, length}
use Rattle.std.specs.Prelude.{slice_index}
use Rattle.mk_choice.proofs.together.some_wants.Given as goal

abbrev pub invariant-loop-i : goal.invariant-loop-i
invariant-loop-i l = record { size : length l.some ≡ 32; less : (j : ℕ) → j < l.i → slice_index l.some j ≤ slice_index l.wants j }
