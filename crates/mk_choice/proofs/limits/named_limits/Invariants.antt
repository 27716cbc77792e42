use Rattle.mk_choice.specs.Together.{HasLimits, InEach, KeepsTo}
use Rattle.mk_choice.proofs.limits.named_limits.Given as goal

abbrev pub invariant-loop-h : goal.invariant-loop-h
invariant-loop-h l = record { rows : HasLimits l.all; each : InEach l.query l.counts l.ahead (KeepsTo l.all.wants l.all.caps) }
