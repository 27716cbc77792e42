use Rattle.mk_query.specs.RootSizes.{AreGreatest}
use Rattle.mk_query.proofs.root_sizes.is_small.Given as goal

abbrev pub invariant-loop-n : goal.invariant-loop-n
invariant-loop-n l = AreGreatest l.draft l.n l.of_groups.items
