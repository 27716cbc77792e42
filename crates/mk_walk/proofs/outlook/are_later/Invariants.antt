use Rattle.std.proofs.Common.{◌<◌, ◌≤◌, length, take, All}
use Rattle.mk_walk.proofs.outlook.are_later.Given as goal

abbrev pub invariant-loop-x : goal.invariant-loop-x
invariant-loop-x l = All (λ x. (l.first < x) × (x ≤ length l.graph.atoms)) (take l.x-index l.order)
