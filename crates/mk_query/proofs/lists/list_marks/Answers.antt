use Rattle.std.proofs.Common.{refl}
use Rattle.mk_query.proofs.ListLemmas.{all_lists_noted}
use Rattle.mk_query.proofs.lists.list_marks.Goals as goal

pub returns-clause-marks : goal.returns-clause-marks
returns-clause-marks c =
    all_lists_noted c.args.table.now _ _ c.in_ok-marks.marks.items c.add_number_lists.new.marks.items
    c.add_symbol_lists.new.marks.items refl refl (c.in_ok-marks.ensures.items_if_clones_equal (λ y e. e))
    (rw c.as_slice-2.ensures at c.add_number_lists.ensures) (rw c.as_slice-3.ensures at c.add_symbol_lists.ensures)
