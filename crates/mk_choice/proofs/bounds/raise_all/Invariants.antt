use Rattle.std.proofs.Common.{◌≡◌, ◌≤◌, ℕ, length}
use Rattle.std.specs.Prelude.{slice_index}
use Rattle.mk_choice.proofs.bounds.raise_all.Given as goal

abbrev pub invariant-loop : goal.invariant-loop
invariant-loop l = record { size : length l.most.items ≡ 1024; capped : (i : ℕ) → slice_index l.most.items i ≤ 513 }
