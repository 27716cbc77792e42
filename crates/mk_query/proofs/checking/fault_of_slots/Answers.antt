use Rattle.mk_query.specs.FirstFault.{attachment_points, link_atoms, group_logic}
use Rattle.mk_query.proofs.FaultLemmas.{below_all, fault, passed}
use Rattle.mk_query.proofs.checking.fault_of_slots.Goals as goal

pub returns-in-Some : goal.returns-in-Some
returns-in-Some c = λ groups before.
    fault groups c.args.is_root c.args.notes.now.table.now attachment_points c.first_misplaced_point.result c.in-Some.item c.in-Some.is c.first_misplaced_point.ensures before

pub returns-in-Some-2 : goal.returns-in-Some-2
returns-in-Some-2 c = λ groups before.
    fault groups c.args.is_root c.args.notes.now.table.now link_atoms c.in_ok-item.field-0 c.in-Some-2.item c.in-Some-2.is c.in_ok-item.ensures
    (passed groups c.args.is_root c.args.notes.now.table.now attachment_points c.first_misplaced_point.result c.in_default.is c.first_misplaced_point.ensures before)

pub returns-in-Some-3 : goal.returns-in-Some-3
returns-in-Some-3 c = λ groups before.
    fault groups c.args.is_root c.args.notes.now.table.now group_logic c.in_ok-item-2.field-0 c.in-Some-3.item c.in-Some-3.is (rw c.as_slice.ensures at c.in_ok-item-2.ensures)
    (passed groups c.args.is_root c.args.notes.now.table.now link_atoms c.in_ok-item.field-0 c.in_default-2.is c.in_ok-item.ensures
    (passed groups c.args.is_root c.args.notes.now.table.now attachment_points c.first_misplaced_point.result c.in_default.is c.first_misplaced_point.ensures before))

pub returns : goal.returns
returns c = λ groups before.
    below_all groups c.args.is_root c.args.notes.now.table.now
    (passed groups c.args.is_root c.args.notes.now.table.now group_logic c.in_ok-item-2.field-0 c.in_default-3.is (rw c.as_slice.ensures at c.in_ok-item-2.ensures)
    (passed groups c.args.is_root c.args.notes.now.table.now link_atoms c.in_ok-item.field-0 c.in_default-2.is c.in_ok-item.ensures
    (passed groups c.args.is_root c.args.notes.now.table.now attachment_points c.first_misplaced_point.result c.in_default.is c.first_misplaced_point.ensures before)))
