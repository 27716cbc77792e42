use Rattle.std.proofs.Common.{◌≡◌, take}
use Rattle.mk_query.specs.RootSizes.{capped, of_group, sites_size}
use Rattle.mk_query.proofs.root_sizes.sites_size.Given as goal

abbrev pub invariant-loop-i : goal.invariant-loop-i
invariant-loop-i l = l.size ≡ capped (sites_size (of_group l.of_groups) (take l.i l.slots))
