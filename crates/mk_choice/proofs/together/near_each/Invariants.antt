use Rattle.std.proofs.Common.{◌≡◌, drop, length, All}
use Rattle.mk_choice.specs.Search.{IsKnown}
use Rattle.mk_choice.proofs.together.near_each.Given as goal

abbrev pub invariant-loop-place : goal.invariant-loop-place
invariant-loop-place l = record { size : length l.near ≡ 32; known : All IsKnown (drop l.place l.waiting) }

abbrev pub invariant-loop-i : goal.invariant-loop-i
invariant-loop-i l = length l.near ≡ 32
