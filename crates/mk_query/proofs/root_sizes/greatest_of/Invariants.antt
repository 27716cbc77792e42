use Rattle.std.proofs.Common.{◌≡◌, take}
use Rattle.mk_model.specs.Sizes.{greatest}
use Rattle.mk_query.specs.RootSizes.{size_by_lists}
use Rattle.mk_query.proofs.root_sizes.greatest_of.Given as goal

abbrev pub invariant-loop-i : goal.invariant-loop-i
invariant-loop-i l = l.most ≡ greatest (size_by_lists l.draft l.own l.of_groups) (take l.i l.members)
