use Rattle.mk_choice.specs.Together.{HasLimits, InEach, KeepsTo}
use Rattle.mk_choice.proofs.limits.asked_limits.Given as goal

abbrev pub invariant-loop-i : goal.invariant-loop-i
invariant-loop-i l = record { rows : HasLimits l.limits; each : InEach l.query l.counts l.ahead (KeepsTo l.limits.wants l.limits.caps) }
