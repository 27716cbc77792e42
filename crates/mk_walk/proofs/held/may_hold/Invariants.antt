use Rattle.std.proofs.Common.{◌≤◌}
use Rattle.mk_walk.proofs.HeldLemmas.{CameSoFar}
use Rattle.mk_walk.proofs.held.may_hold.Given as goal

abbrev pub invariant-loop : goal.invariant-loop
invariant-loop l = CameSoFar l.graph l.mol l.counter l.search × (l.purse ≤ l.initial.purse)
