use Rattle.mk_query.proofs.LinkMarkLemmas.{links-more, links-all}
use Rattle.mk_query.proofs.linked_atoms.add_links.Goals as goal

pub loop-link-preserved : goal.loop-link-preserved
loop-link-preserved c = links-more c.args.links.now c.loop-link.link-index _ _ _ _ c.loop-link-test.true c.loop-link.invariant c.add_link.ensures

pub returns : goal.returns
returns c = links-all c.args.links.now c.loop-link.link-index _ _ c.loop-link-test.false c.loop-link.invariant
