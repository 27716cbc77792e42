use Rattle.mk_choice.specs.Together.{HasLimits, InEach, KeepsTo}
use Rattle.mk_choice.proofs.limits.limits_of.Given as goal

abbrev pub invariant-loop : goal.invariant-loop
invariant-loop l = record { rows : HasLimits l.limits; each : InEach l.query l.counts l.ahead (KeepsTo l.limits.wants l.limits.caps) }
