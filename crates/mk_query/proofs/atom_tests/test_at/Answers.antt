use Rattle.std.proofs.Common.{◌∙◌, refl, rules, sym, w8}
use Rattle.std.proofs.lemmas.Int.{to_z-of_z}
use mir.Val.{SFits}
use Rattle.mk_query.proofs.TestLemmas.{drawn_is, each_line, known_place, line_at, plain_symbol, right_atom, ring_bonds_fit, substitution_fits}
use Rattle.mk_query.proofs.atom_tests.test_at.Goals as goal

pub kind_of-requires-clause-symbol : goal.kind_of-requires-clause-symbol
kind_of-requires-clause-symbol c =
    let at = line_at c.args.table.now c.as_slice.result.now c.args.i c.index-as_slice-i.result c.as_slice.ensures c.index-as_slice-i.is c.requires.within in
    rw c.as_slice-2.ensures (plain_symbol c.args.table.now c.args.i c.index-as_slice-i.result c.requires.passed at (sym c.is_site.ensures ∙ c.if-is_site.false))

pub kind_of-requires-clause-list : goal.kind_of-requires-clause-list
kind_of-requires-clause-list c =
    let at = line_at c.args.table.now c.as_slice.result.now c.args.i c.index-as_slice-i.result c.as_slice.ensures c.index-as_slice-i.is c.requires.within in
    known_place c.args.table.now c.args.notes.now c.args.i c.index-as_slice-i.result c.index.result.now c.requires.passed c.requires.notes at c.index.ensures

pub hydrogens_of-requires : goal.hydrogens_of-requires
hydrogens_of-requires c =
    let at = line_at c.args.table.now c.as_slice.result.now c.args.i c.index-as_slice-i.result c.as_slice.ensures c.index-as_slice-i.is c.requires.within in
    (right_atom c.args.table.now c.args.i c.index-as_slice-i.result c.requires.passed at).hydrogens

pub small-requires : goal.small-requires
small-requires c = ring_bonds_fit c.args.table.now c.args.notes.now c.args.i c.index-2.result.now c.requires.passed c.requires.notes c.requires.within c.index-2.ensures

pub small-requires-2 : goal.small-requires-2
small-requires-2 c = substitution_fits c.args.table.now c.args.notes.now c.args.i c.index-3.result.now c.requires.passed c.requires.notes c.requires.within c.index-3.ensures

pub returns-then-is_site : goal.returns-then-is_site
returns-then-is_site c =
    let at = line_at c.args.table.now c.as_slice.result.now c.args.i c.index-as_slice-i.result c.as_slice.ensures c.index-as_slice-i.is c.requires.within in
    each_line c.args.table.now c.args.i c.index-as_slice-i.result _ at (rw (sym c.if-is_site.ensures) c.no_test.ensures)

pub returns : goal.returns
returns c =
    let table = c.args.table.now in
    let line = c.index-as_slice-i.result in
    let at = line_at table c.as_slice.result.now c.args.i line c.as_slice.ensures c.index-as_slice-i.is c.requires.within in
    let charge : SFits w8 c.index-electrons.result.now.charge = search rules in
    let ring_bonds : SFits w8 c.small.result = search rules in
    let substitution : SFits w8 c.small-2.result = search rules in
    each_line table c.args.i line _ at
    (drawn_is table c.args.notes.now c.args.i line c.index.result.now c.index-electrons.result.now c.index-2.result.now
    c.index-3.result.now c.index-4.result.now _ c.requires.passed c.requires.notes at
    (sym c.is_site.ensures ∙ c.if-is_site.false) c.index.ensures (rw c.as_slice-2.ensures at c.in_ok-kind.ensures) c.index-electrons.ensures
    (to_z-of_z w8 c.index-electrons.result.now.charge charge) refl c.hydrogens_of.ensures
    c.index-2.ensures (to_z-of_z w8 c.small.result ring_bonds ∙ c.small.ensures) c.index-3.ensures (to_z-of_z w8 c.small-2.result substitution ∙ c.small-2.ensures) c.index-4.ensures c.is_one.ensures)
