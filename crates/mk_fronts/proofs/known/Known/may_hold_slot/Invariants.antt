use Rattle.std.proofs.Common.{◌≤◌}
use Rattle.mk_fronts.proofs.KnownLemmas.{HoldsNoneOf, Stays}
use Rattle.mk_fronts.proofs.known.Known.may_hold_slot.Given as goal

abbrev pub invariant-loop-i : goal.invariant-loop-i
invariant-loop-i l = Stays l.mol l.initial.self.query l.self × HoldsNoneOf l.initial.self.query l.mol l.slot l.i × (l.purse ≤ l.initial.purse)
