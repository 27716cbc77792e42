use Rattle.std.proofs.Common.{◌≡◌, ◌+◌, ◌-◌, ◌*◌, ◌<◌, ℕ, length}
use Rattle.std.specs.Prelude.{slice_index}
use Rattle.mk_choice.proofs.outlook.lowered_by.Given as goal

abbrev pub invariant-loop-i : goal.invariant-loop-i
invariant-loop-i l = record {
  size : length l.left ≡ 32;
  less : (j : ℕ) → j < l.i → slice_index l.left j ≡ slice_index l.filled j - slice_index l.most (l.h * 32 + j);
}
