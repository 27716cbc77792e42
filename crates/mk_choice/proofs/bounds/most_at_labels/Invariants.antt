use Rattle.std.proofs.Common.{◌≡◌, ◌+◌, take}
use Rattle.mk_model.specs.Sizes.{greatest}
use Rattle.mk_choice.specs.Bounds.{bound_in}
use Rattle.mk_choice.proofs.bounds.most_at_labels.Given as goal

abbrev pub invariant-loop-h : goal.invariant-loop-h
invariant-loop-h l = l.greatest ≡ greatest (λ h. bound_in l.most h (l.g + 1)) (take l.h-index l.labels)
