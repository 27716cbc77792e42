use Rattle.std.proofs.Common.{◌≡◌, ◌+◌, ◌*◌, ◌<◌, ◌≤◌, ℕ, length}
use Rattle.std.specs.Prelude.{slice_index}
use Rattle.mk_choice.proofs.outlook.raised_by.Given as goal

abbrev pub invariant-loop-i : goal.invariant-loop-i
invariant-loop-i l = record {
  size : length l.sums ≡ 32;
  more : (j : ℕ) → j < l.i → slice_index l.filled j + slice_index l.most (l.h * 32 + j) ≤ 1000000 → slice_index l.sums j ≡ slice_index l.filled j + slice_index l.most (l.h * 32 + j);
}
