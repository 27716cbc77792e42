use Rattle.mk_spelling.specs.TableSpelling.{at_left}
use Rattle.mk_spelling.proofs.AppendLemmas.{all_written, one_more}
use Rattle.mk_spelling.proofs.writing_properties.put_symbols.Goals as goal

pub loop-symbol-preserved : goal.loop-symbol-preserved
loop-symbol-preserved c =
    let written = rw c.as_slice.ensures at c.in_ok-put_left.ensures in
    one_more (at_left 4) c.args.symbols.now c.loop-symbol.symbol-index c.symbol-item.result c.args.out.now.items c.loop-symbol.out.items
    c.put_left.new.out.items c.loop-symbol-test.true c.symbol-item.is c.loop-symbol.invariant written

pub returns : goal.returns
returns c = all_written (at_left 4) c.args.symbols.now c.loop-symbol.symbol-index c.args.out.now.items c.loop-symbol.out.items c.loop-symbol-test.false c.loop-symbol.invariant
