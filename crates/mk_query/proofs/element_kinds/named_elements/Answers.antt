use Rattle.mk_query.proofs.KindLemmas.{names_all, names_seen}
use Rattle.mk_query.proofs.element_kinds.named_elements.Goals as goal

pub loop-symbol-preserved : goal.loop-symbol-preserved
loop-symbol-preserved c =
    let names = rw c.as_slice.ensures at c.named_element.ensures in
    rw c.in_ok-push.ensures.ok (names_seen c.args.symbols.now c.loop-symbol.symbol-index c.symbol-item.result c.loop-symbol.elements c.named_element.result
    c.loop-symbol-test.true c.symbol-item.is c.loop-symbol.invariant names)

pub returns : goal.returns
returns c = names_all c.args.symbols.now c.loop-symbol.symbol-index c.loop-symbol.elements c.loop-symbol-test.false c.loop-symbol.invariant
