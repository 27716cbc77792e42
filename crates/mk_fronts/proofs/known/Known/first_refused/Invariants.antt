use Rattle.std.proofs.Common.{◌≤◌}
use Rattle.mk_fronts.proofs.KnownLemmas.{Stays}
use Rattle.mk_fronts.proofs.known.Known.first_refused.Given as goal

abbrev pub invariant-loop-n : goal.invariant-loop-n
invariant-loop-n l = Stays l.mol l.initial.self.query l.self × (l.purse ≤ l.initial.purse)
