use Rattle.mk_query.proofs.OwnSizesLemmas.{link_takes}
use Rattle.mk_query.proofs.own_sizes.taken_by.Goals as goal

pub returns-in_ok-block-in-Link : goal.returns-in_ok-block-in-Link
returns-in_ok-block-in-Link c =
    rw c.in-Link.is (link_takes c.args.bonded.now.bonds.now c.in-Link.atom c.in-Link.most c.in-Link.from c.in-Link.to c.args.bonded.now.atoms
    c.in_ok-block-in-Link.block.items c.in_ok-block-in-Link.ensures.size c.in_ok-block-in-Link.ensures.block)
