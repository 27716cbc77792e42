use Rattle.std.proofs.Common.{◌≤◌, ◌-◌, length}
use Rattle.mk_rings.specs.Rounds.{AllBelow, Spreads}
use Rattle.mk_rings.proofs.spreading.spread.Given as goal

abbrev pub invariant-loop-b : goal.invariant-loop-b
invariant-loop-b l = record {
  spreads : Spreads l.bonds l.fn.marks l.marks;
  queue : AllBelow (length l.bonds) l.queue;
  room : l.tail ≤ length l.queue;
}

abbrev pub invariant-loop-head : goal.invariant-loop-head
invariant-loop-head l = record {
  spreads : Spreads l.bonds l.fn.marks l.marks;
  queue : AllBelow (length l.bonds) l.queue;
  room : l.tail ≤ length l.queue;
}

abbrev pub decreases-loop-head : goal.decreases-loop-head
decreases-loop-head l = length l.queue - l.head
