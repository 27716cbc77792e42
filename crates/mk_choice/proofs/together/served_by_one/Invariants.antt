use Rattle.std.proofs.Common.{◌≡◌, take}
use Rattle.mk_choice.specs.Together.{free_in}
use Rattle.mk_model.specs.Sizes.{greatest}
use Rattle.mk_choice.proofs.together.served_by_one.Given as goal

abbrev pub invariant-loop-h : goal.invariant-loop-h
invariant-loop-h l = l.greatest ≡ greatest (free_in l.free) (take l.h-index l.labels)
