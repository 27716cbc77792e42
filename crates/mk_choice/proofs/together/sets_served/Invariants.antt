use Rattle.std.proofs.Common.{◌≡◌, length}
use Rattle.mk_choice.proofs.together.sets_served.Given as goal

abbrev pub invariant-loop-h : goal.invariant-loop-h
invariant-loop-h l = length l.served ≡ 32
