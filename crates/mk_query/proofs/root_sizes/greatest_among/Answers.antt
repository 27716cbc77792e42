use Rattle.std.proofs.Common.{◌∙◌, sym}
use Rattle.mk_query.specs.RootSizes.{of_group}
use Rattle.mk_query.proofs.RootSizesLemmas.{greatest_more}
use Rattle.mk_query.proofs.root_sizes.greatest_among.Goals as goal

pub loop-i-preserved : goal.loop-i-preserved
loop-i-preserved c =
    c.max-most.ensures ∙ rw (c.loop-i.invariant, c.number_at.ensures, c.saturating_sub.ensures) (sym (greatest_more (of_group c.args.of_groups.now) c.args.groups.now c.loop-i.i c.loop-i-test.true))
