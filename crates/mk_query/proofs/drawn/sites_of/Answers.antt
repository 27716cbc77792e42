use Rattle.std.proofs.Common.{ap, ◌∙◌}
use Rattle.mk_query.specs.Drawn.{is_site}
use Rattle.mk_query.proofs.MapLemmas.{mapped_all, mapped_more}
use Rattle.mk_query.proofs.drawn.sites_of.Goals as goal

pub loop-atom-preserved : goal.loop-atom-preserved
loop-atom-preserved c =
    c.in_ok-push.ensures.items
    ∙ mapped_more is_site c.args.atoms.now c.loop-atom.atom-index c.atom-item.result c.loop-atom.sites.items c.is_site.result
    c.loop-atom-test.true (c.is_site.ensures ∙ ap is_site c.atom-item.is) c.loop-atom.invariant

pub returns : goal.returns
returns c = mapped_all is_site c.args.atoms.now c.loop-atom.atom-index c.loop-atom.sites.items c.loop-atom-test.false c.loop-atom.invariant
