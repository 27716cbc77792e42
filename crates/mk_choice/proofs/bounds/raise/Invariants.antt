use Rattle.std.proofs.Common.{◌≡◌, ◌≤◌, ℕ, length}
use Rattle.std.specs.Prelude.{slice_index}
use Rattle.mk_choice.proofs.bounds.raise.Given as goal

abbrev pub invariant-loop-h : goal.invariant-loop-h
invariant-loop-h l = record { size : length l.most.items ≡ 1024; capped : (i : ℕ) → slice_index l.most.items i ≤ 513 }

abbrev pub invariant-loop-g : goal.invariant-loop-g
invariant-loop-g l = record { size : length l.most.items ≡ 1024; capped : (i : ℕ) → slice_index l.most.items i ≤ 513 }
