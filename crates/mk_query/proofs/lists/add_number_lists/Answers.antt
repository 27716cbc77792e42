use Rattle.mk_query.specs.Marks.{IsListMark}
use Rattle.mk_query.proofs.ListLemmas.{number_lists_by, numbers_told}
use Rattle.mk_query.proofs.MarkLemmas.{more-none, pass-more, pass-all}
use Rattle.mk_query.proofs.lists.add_number_lists.Goals as goal

pub loop-list-init : goal.loop-list-init
loop-list-init c = more-none IsListMark c.args.marks.now.items

pub loop-list-preserved : goal.loop-list-preserved
loop-list-preserved c =
    pass-more IsListMark number_lists_by numbers_told c.args.lists.now c.loop-list.list-index c.list-item.result _ _ _ c.loop-list-test.true c.list-item.is c.loop-list.invariant c.add_numbers.ensures

pub returns : goal.returns
returns c = pass-all IsListMark number_lists_by c.args.lists.now c.loop-list.list-index _ _ c.loop-list-test.false c.loop-list.invariant
