use Rattle.std.proofs.Common.{◌≤◌, ◌+◌, drop, All}
use Rattle.mk_choice.specs.Together.{free_in, served_at}
use Rattle.mk_choice.specs.Search.{IsKnown}
use Rattle.mk_choice.proofs.together.served_at.Given as goal

abbrev pub invariant-loop-place : goal.invariant-loop-place
invariant-loop-place l = record {
  known : All IsKnown (drop l.place l.waiting);
  served : l.sum ≤ 512 → served_at (free_in l.free) (drop l.first l.waiting) ≤ l.sum + served_at (free_in l.free) (drop l.place l.waiting);
}
