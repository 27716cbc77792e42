use Rattle.std.proofs.lemmas.List.{get_or_default}
use Rattle.mk_spelling.specs.TableSpelling.{pair_text}
use Rattle.mk_spelling.proofs.AppendLemmas.{all_written, one_more}
use Rattle.mk_spelling.proofs.writing_properties.put_entries.Goals as goal

pub loop-pair-preserved : goal.loop-pair-preserved
loop-pair-preserved c =
    one_more pair_text c.args.pairs.now c.loop-pair.pair-index _ c.args.out.now.items c.loop-pair.out.items c.put_pair.new.out.items
    c.loop-pair-test.true (get_or_default c.args.pairs.now c.loop-pair.pair-index _ _ c.loop-pair-test.true) c.loop-pair.invariant c.in_ok-put_pair.ensures

pub returns : goal.returns
returns c = all_written pair_text c.args.pairs.now c.loop-pair.pair-index c.args.out.now.items c.loop-pair.out.items c.loop-pair-test.false c.loop-pair.invariant
