use Rattle.std.proofs.Common.{take}
use Rattle.mk_query.specs.Marks.{AreMore, IsListMark}
use Rattle.mk_query.proofs.ListLemmas.{symbol_lists_by}
use Rattle.mk_query.proofs.lists.add_symbol_lists.Given as goal

abbrev pub invariant-loop-property : goal.invariant-loop-property
invariant-loop-property l = AreMore IsListMark (symbol_lists_by (take l.property-index l.props)) l.fn.marks.items l.marks.items
