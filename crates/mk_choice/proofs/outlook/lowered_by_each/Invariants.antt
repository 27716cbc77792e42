use Rattle.std.proofs.Common.{◌≡◌, ◌+◌, ◌-◌, ◌<◌, ℕ, length}
use Rattle.std.specs.Prelude.{slice_index}
use Rattle.mk_model.specs.Sizes.{greatest}
use Rattle.mk_choice.specs.Bounds.{bound_in}
use Rattle.mk_choice.proofs.outlook.lowered_by_each.Given as goal

abbrev pub invariant-loop-i : goal.invariant-loop-i
invariant-loop-i l = record {
  size : length l.left ≡ 32;
  less : (j : ℕ) → j < l.i → slice_index l.left j ≡ slice_index l.filled j - greatest (λ h. bound_in l.most h (j + 1)) l.labels;
}
