use Rattle.std.proofs.Common.{◌≡◌, take}
use Rattle.mk_model.specs.Sizes.{greatest}
use Rattle.mk_query.specs.RootSizes.{of_group}
use Rattle.mk_query.proofs.root_sizes.greatest_among.Given as goal

abbrev pub invariant-loop-i : goal.invariant-loop-i
invariant-loop-i l = l.most ≡ greatest (of_group l.of_groups) (take l.i l.groups)
