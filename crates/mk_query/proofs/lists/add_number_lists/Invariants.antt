use Rattle.std.proofs.Common.{take}
use Rattle.mk_query.specs.Marks.{AreMore, IsListMark}
use Rattle.mk_query.proofs.ListLemmas.{number_lists_by}
use Rattle.mk_query.proofs.lists.add_number_lists.Given as goal

abbrev pub invariant-loop-list : goal.invariant-loop-list
invariant-loop-list l = AreMore IsListMark (number_lists_by (take l.list-index l.lists)) l.fn.marks.items l.marks.items
