use Rattle.mk_query.specs.FirstFault.{query_atoms, query_bonds, query_properties}
use Rattle.mk_query.proofs.FaultLemmas.{below_none, fault, passed}
use Rattle.mk_query.proofs.checking.fault_of_lines.Goals as goal

pub returns-in-Some : goal.returns-in-Some
returns-in-Some c = λ groups is_root.
    fault groups is_root c.args.table.now query_atoms c.first_unknown_atom.result c.in-Some.item c.in-Some.is
    (rw c.as_slice-atoms.ensures at c.first_unknown_atom.ensures) (below_none groups is_root c.args.table.now)

pub returns-in-Some-2 : goal.returns-in-Some-2
returns-in-Some-2 c = λ groups is_root.
    fault groups is_root c.args.table.now query_bonds c.in_ok-item.field-0 c.in-Some-2.item c.in-Some-2.is (rw (c.as_slice-atoms.ensures, c.as_slice.ensures) at c.in_ok-item.ensures)
    (passed groups is_root c.args.table.now query_atoms c.first_unknown_atom.result c.in_default.is
    (rw c.as_slice-atoms.ensures at c.first_unknown_atom.ensures) (below_none groups is_root c.args.table.now))

pub returns-in-Some-first_unknown_property : goal.returns-in-Some-first_unknown_property
returns-in-Some-first_unknown_property c = λ groups is_root.
    fault groups is_root c.args.table.now query_properties c.first_unknown_property.result c.in-Some-first_unknown_property.item c.in-Some-first_unknown_property.is
    (rw (c.as_slice-atoms.ensures, c.as_slice-props.ensures) at c.first_unknown_property.ensures)
    (passed groups is_root c.args.table.now query_bonds c.in_ok-item.field-0 c.in_default-2.is (rw (c.as_slice-atoms.ensures, c.as_slice.ensures) at c.in_ok-item.ensures)
    (passed groups is_root c.args.table.now query_atoms c.first_unknown_atom.result c.in_default.is
    (rw c.as_slice-atoms.ensures at c.first_unknown_atom.ensures) (below_none groups is_root c.args.table.now)))

pub returns : goal.returns
returns c = λ groups is_root.
    passed groups is_root c.args.table.now query_properties c.first_unknown_property.result c.in_default-first_unknown_property.is
    (rw (c.as_slice-atoms.ensures, c.as_slice-props.ensures) at c.first_unknown_property.ensures)
    (passed groups is_root c.args.table.now query_bonds c.in_ok-item.field-0 c.in_default-2.is (rw (c.as_slice-atoms.ensures, c.as_slice.ensures) at c.in_ok-item.ensures)
    (passed groups is_root c.args.table.now query_atoms c.first_unknown_atom.result c.in_default.is
    (rw c.as_slice-atoms.ensures at c.first_unknown_atom.ensures) (below_none groups is_root c.args.table.now)))
