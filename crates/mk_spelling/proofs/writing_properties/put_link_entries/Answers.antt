use Rattle.std.proofs.lemmas.List.{get_or_default}
use Rattle.mk_spelling.specs.TableSpelling.{link_text}
use Rattle.mk_spelling.proofs.AppendLemmas.{all_written, one_more}
use Rattle.mk_spelling.proofs.writing_properties.put_link_entries.Goals as goal

pub loop-link-preserved : goal.loop-link-preserved
loop-link-preserved c =
    one_more link_text c.args.links.now c.loop-link.link-index _ c.args.out.now.items c.loop-link.out.items c.put_link.new.out.items
    c.loop-link-test.true (get_or_default c.args.links.now c.loop-link.link-index _ _ c.loop-link-test.true) c.loop-link.invariant c.in_ok-put_link.ensures

pub returns : goal.returns
returns c = all_written link_text c.args.links.now c.loop-link.link-index c.args.out.now.items c.loop-link.out.items c.loop-link-test.false c.loop-link.invariant
