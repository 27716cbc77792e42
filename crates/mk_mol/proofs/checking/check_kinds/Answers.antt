use Rattle.mk_mol.specs.FirstFault.{known_properties}
use Rattle.mk_mol.proofs.FaultLemmas.{below_more, below_all, fault, foreign_lists, foreign_property, no_foreign, is_empty, is_not_empty}
use Rattle.mk_mol.proofs.checking.check_kinds.Goals as goal

pub returns-then-not-is_empty-clause-fault : goal.returns-then-not-is_empty-clause-fault
returns-then-not-is_empty-clause-fault c =
    fault c.args.table.now known_properties 0 c.requires.earlier
    (foreign_lists c.args.table.now (is_not_empty _ _ c.is_empty.result c.as_slice.ensures c.is_empty.ensures c.if-not-is_empty.true))

pub returns-in-Some-clause-fault : goal.returns-in-Some-clause-fault
returns-in-Some-clause-fault c =
    fault c.args.table.now known_properties c.in-Some.item c.requires.earlier
    (foreign_property c.args.table.now _ (is_empty _ _ c.is_empty.result c.as_slice.ensures c.is_empty.ensures c.if-not-is_empty.false) (rw c.as_slice-2.ensures at c.in-Some.ensures))

pub returns-in-None-clause-passes : goal.returns-in-None-clause-passes
returns-in-None-clause-passes c =
    let none = is_empty _ _ c.is_empty.result c.as_slice.ensures c.is_empty.ensures c.if-not-is_empty.false in
    below_all c.args.table.now
    (below_more c.args.table.now known_properties (no_foreign c.args.table.now none (rw c.as_slice-2.ensures at c.in-None.ensures)) c.requires.earlier)
