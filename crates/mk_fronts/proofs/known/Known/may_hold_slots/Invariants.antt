use Rattle.std.proofs.Common.{◌≤◌}
use Rattle.mk_fronts.proofs.KnownLemmas.{Stays}
use Rattle.mk_fronts.proofs.known.Known.may_hold_slots.Given as goal

abbrev pub invariant-loop-turn : goal.invariant-loop-turn
invariant-loop-turn l = Stays l.mol l.initial.self.query l.self × (l.purse ≤ l.initial.purse)
