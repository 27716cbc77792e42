use Rattle.std.proofs.Common.{length}
use Rattle.mk_rings.specs.Forests.{node}
use Rattle.mk_rings.proofs.GrowLemmas.{IsFollowed}
use Rattle.mk_rings.proofs.forest.follow.Given as goal

abbrev pub invariant-loop-number : goal.invariant-loop-number
invariant-loop-number l =
    IsFollowed l.bonds l.fn.nodes (length l.fn.stack.items) l.x (node l.fn.nodes l.x).root l.numbers l.number-index l.nodes l.stack.items
