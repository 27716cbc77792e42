use Rattle.mk_query.specs.Marks.{IsListMark}
use Rattle.mk_query.proofs.ListLemmas.{symbol_lists_by, symbols_told}
use Rattle.mk_query.proofs.MarkLemmas.{more-none, pass-more, pass-all}
use Rattle.mk_query.proofs.lists.add_symbol_lists.Goals as goal

pub loop-property-init : goal.loop-property-init
loop-property-init c = more-none IsListMark c.args.marks.now.items

pub loop-property-preserved : goal.loop-property-preserved
loop-property-preserved c =
    pass-more IsListMark symbol_lists_by symbols_told c.args.props.now c.loop-property.property-index
    c.property-item.result _ _ _ c.loop-property-test.true c.property-item.is c.loop-property.invariant
    c.add_property.ensures

pub returns : goal.returns
returns c = pass-all IsListMark symbol_lists_by c.args.props.now c.loop-property.property-index _ _ c.loop-property-test.false c.loop-property.invariant
