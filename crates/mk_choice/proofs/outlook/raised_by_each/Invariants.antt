use Rattle.std.proofs.Common.{◌≡◌, ◌+◌, ◌<◌, ◌≤◌, ℕ, length}
use Rattle.std.specs.Prelude.{slice_index}
use Rattle.mk_model.specs.Sizes.{greatest}
use Rattle.mk_choice.specs.Bounds.{bound_in}
use Rattle.mk_choice.proofs.outlook.raised_by_each.Given as goal

abbrev pub invariant-loop-i : goal.invariant-loop-i
invariant-loop-i l = record {
  size : length l.sums ≡ 32;
  more : (j : ℕ) → j < l.i → slice_index l.filled j + greatest (λ h. bound_in l.most h (j + 1)) l.labels ≤ 1000000
      → slice_index l.sums j ≡ slice_index l.filled j + greatest (λ h. bound_in l.most h (j + 1)) l.labels;
}
