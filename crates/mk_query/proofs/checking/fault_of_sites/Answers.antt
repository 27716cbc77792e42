use Rattle.mk_query.specs.FirstFault.{element_lists, labelled_sites, site_places, site_orders}
use Rattle.mk_query.proofs.FaultLemmas.{fault, passed}
use Rattle.mk_query.proofs.checking.fault_of_sites.Goals as goal

pub returns-in-Some : goal.returns-in-Some
returns-in-Some c = λ groups is_root are before.
    fault groups is_root c.args.notes.now.table.now element_lists c.in_ok-item.field-0 c.in-Some.item c.in-Some.is c.in_ok-item.ensures before

pub returns-in-Some-first_unlabelled_atom : goal.returns-in-Some-first_unlabelled_atom
returns-in-Some-first_unlabelled_atom c = λ groups is_root are before.
    let found = c.in-Some-first_unlabelled_atom in
    fault groups is_root c.args.notes.now.table.now labelled_sites c.first_unlabelled_atom.result found.item found.is (c.first_unlabelled_atom.ensures groups are)
    (passed groups is_root c.args.notes.now.table.now element_lists c.in_ok-item.field-0 c.in_default.is c.in_ok-item.ensures before)

pub returns-in-Some-first_misplaced_site : goal.returns-in-Some-first_misplaced_site
returns-in-Some-first_misplaced_site c = λ groups is_root are before.
    let table = c.args.notes.now.table.now in
    let found = c.in-Some-first_misplaced_site in
    fault groups is_root table site_places c.first_misplaced_site.result found.item found.is c.first_misplaced_site.ensures
    (passed groups is_root table labelled_sites c.first_unlabelled_atom.result c.in_default-first_unlabelled_atom.is (c.first_unlabelled_atom.ensures groups are)
    (passed groups is_root table element_lists c.in_ok-item.field-0 c.in_default.is c.in_ok-item.ensures before))

pub returns-in-Some-2 : goal.returns-in-Some-2
returns-in-Some-2 c = λ groups is_root are before.
    let table = c.args.notes.now.table.now in
    fault groups is_root table site_orders c.in_ok-item-2.field-0 c.in-Some-2.item c.in-Some-2.is c.in_ok-item-2.ensures
    (passed groups is_root table site_places c.first_misplaced_site.result c.in_default-first_misplaced_site.is c.first_misplaced_site.ensures
    (passed groups is_root table labelled_sites c.first_unlabelled_atom.result c.in_default-first_unlabelled_atom.is (c.first_unlabelled_atom.ensures groups are)
    (passed groups is_root table element_lists c.in_ok-item.field-0 c.in_default.is c.in_ok-item.ensures before)))

pub returns : goal.returns
returns c = λ groups is_root are before.
    let table = c.args.notes.now.table.now in
    passed groups is_root table site_orders c.in_ok-item-2.field-0 c.in_default-2.is c.in_ok-item-2.ensures
    (passed groups is_root table site_places c.first_misplaced_site.result c.in_default-first_misplaced_site.is c.first_misplaced_site.ensures
    (passed groups is_root table labelled_sites c.first_unlabelled_atom.result c.in_default-first_unlabelled_atom.is (c.first_unlabelled_atom.ensures groups are)
    (passed groups is_root table element_lists c.in_ok-item.field-0 c.in_default.is c.in_ok-item.ensures before)))
