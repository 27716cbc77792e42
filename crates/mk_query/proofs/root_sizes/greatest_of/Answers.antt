use Rattle.std.proofs.Common.{◌∙◌, sym}
use Rattle.mk_query.specs.RootSizes.{size_by_lists}
use Rattle.mk_query.proofs.RootSizesLemmas.{greatest_more}
use Rattle.mk_query.proofs.root_sizes.greatest_of.Goals as goal

pub loop-i-preserved : goal.loop-i-preserved
loop-i-preserved c =
    c.max-most.ensures
    ∙ rw (c.loop-i.invariant, c.size_by_lists.ensures) (sym (greatest_more (size_by_lists c.args.draft.now c.args.own.now c.args.of_groups.now) c.args.members.now c.loop-i.i c.loop-i-test.true))
