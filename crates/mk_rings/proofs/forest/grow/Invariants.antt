use Rattle.std.proofs.Common.{◌≢◌, ◌+◌, ◌*◌, length}
use Rattle.mk_rings.specs.Forests.{node, unreached}
use Rattle.mk_rings.specs.Growing.{IsReaching, StayReached}
use Rattle.mk_rings.proofs.forest.grow.Given as goal

abbrev pub invariant-loop-x : goal.invariant-loop-x
invariant-loop-x l = record {
  reaching : IsReaching l.bonds l.nodes l.stack.items l.top 0;
  stay : StayReached l.fn.nodes l.nodes;
  reached : (node l.nodes l.top).root ≢ 0;
}

abbrev pub decreases-loop-x : goal.decreases-loop-x
decreases-loop-x l = 2 * unreached l.nodes + length l.stack.items
