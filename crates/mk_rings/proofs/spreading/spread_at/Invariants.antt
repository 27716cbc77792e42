use Rattle.std.proofs.Common.{◌≤◌, length}
use Rattle.mk_rings.specs.Rounds.{AllBelow, Spreads}
use Rattle.mk_rings.proofs.spreading.spread_at.Given as goal

abbrev pub invariant-loop-i : goal.invariant-loop-i
invariant-loop-i l = record {
  spreads : Spreads l.bonds l.fn.marks l.marks;
  queue : AllBelow (length l.bonds) l.queue;
  room : l.tail ≤ length l.queue;
}
