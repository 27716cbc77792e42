use Rattle.std.proofs.Common.{◌≡◌, ◌<◌, ◌+◌, ℕ, length}
use Rattle.std.specs.Prelude.{slice_index}
use Rattle.mk_choice.specs.Together.{served_by}
use Rattle.mk_choice.specs.Bounds.{bound_in}
use Rattle.mk_choice.proofs.together.served_each.Given as goal

abbrev pub invariant-loop-h : goal.invariant-loop-h
invariant-loop-h l = record { size : length l.served ≡ 32; each : (j : ℕ) → j < l.h → slice_index l.served j ≡ served_by (bound_in l.most) l.wants (j + 1) }
