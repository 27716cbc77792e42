use Rattle.mk_mol.specs.FirstFault.{new_bonds, known_types, few_bonds, MeetsCheck}
use Rattle.mk_mol.proofs.FaultLemmas.{below_more, fault}
use Rattle.mk_demands.proofs.ForCallers.{whole, is_graph, crowded, none_crowded}
use Rattle.mk_mol.proofs.bond_checks.check_drawn.Goals as goal

pub first_no_new_bond-requires-clause-front : goal.first_no_new_bond-requires-clause-front
first_no_new_bond-requires-clause-front c = rw (c.requires.size, c.as_slice-bonds.ensures) c.requires.front

pub returns-in-Some-clause-fault : goal.returns-in-Some-clause-fault
returns-in-Some-clause-fault c =
    fault c.args.table.now new_bonds _ c.requires.earlier (rw (c.requires.size, c.as_slice-bonds.ensures) at c.in-Some.ensures)

pub returns-in-Some-first_unknown_type-clause-fault : goal.returns-in-Some-first_unknown_type-clause-fault
returns-in-Some-first_unknown_type-clause-fault c =
    let two : MeetsCheck c.args.table.now new_bonds = rw (c.requires.size, c.as_slice-bonds.ensures) at c.in_default.ensures in
    fault c.args.table.now known_types _ (below_more c.args.table.now new_bonds two c.requires.earlier) (rw c.as_slice-bonds.ensures at c.in-Some-first_unknown_type.ensures)

pub returns-in-Some-first_crowded_atom-clause-fault : goal.returns-in-Some-first_crowded_atom-clause-fault
returns-in-Some-first_crowded_atom-clause-fault c =
    let two : MeetsCheck c.args.table.now new_bonds = rw (c.requires.size, c.as_slice-bonds.ensures) at c.in_default.ensures in
    let three : MeetsCheck c.args.table.now known_types = rw c.as_slice-bonds.ensures at c.in_default-first_unknown_type.ensures in
    fault c.args.table.now few_bonds _
    (below_more c.args.table.now known_types three (below_more c.args.table.now new_bonds two c.requires.earlier))
    (rw (c.requires.size, whole _ _ _ c.requires.front two) at (crowded c.args.near.now c.args.edges.now c.requires.rows _ c.in-Some-first_crowded_atom.ensures))

pub returns-clause-whole : goal.returns-clause-whole
returns-clause-whole c =
    let two : MeetsCheck c.args.table.now new_bonds = rw (c.requires.size, c.as_slice-bonds.ensures) at c.in_default.ensures in
    whole _ _ _ c.requires.front two

pub returns-clause-graph : goal.returns-clause-graph
returns-clause-graph c =
    let two : MeetsCheck c.args.table.now new_bonds = rw (c.requires.size, c.as_slice-bonds.ensures) at c.in_default.ensures in
    is_graph _ _ _ c.requires.front two

pub returns-clause-passes : goal.returns-clause-passes
returns-clause-passes c =
    let two : MeetsCheck c.args.table.now new_bonds = rw (c.requires.size, c.as_slice-bonds.ensures) at c.in_default.ensures in
    let three : MeetsCheck c.args.table.now known_types = rw c.as_slice-bonds.ensures at c.in_default-first_unknown_type.ensures in
    below_more c.args.table.now few_bonds
    (rw (c.requires.size, whole _ _ _ c.requires.front two) at (none_crowded c.args.near.now c.args.edges.now c.requires.rows c.in_default-first_crowded_atom.ensures))
    (below_more c.args.table.now known_types three (below_more c.args.table.now new_bonds two c.requires.earlier))
