use Rattle.std.proofs.Common.{arith}
use Rattle.mk_query.specs.Marks.{IsListMark}
use Rattle.mk_query.proofs.ListLemmas.{list_more}
use Rattle.mk_query.proofs.MarkLemmas.{more-at}
use Rattle.mk_query.proofs.lists.add_list.Goals as goal

pub returns-then-place-len : goal.returns-then-place-len
returns-then-place-len c = λ list tested.
    more-at IsListMark c.args.marks.now.items c.args.n list c.index.result.now c.and_list.result c.if-place-ge1.true (omega (arith, c.if-place-len.true, c.len.ensures)) c.index.ensures
    (list_more list c.args.known c.index.result.now c.and_list.result tested c.and_list.ensures.listed c.and_list.ensures.known)
