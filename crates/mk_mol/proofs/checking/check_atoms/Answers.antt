use Rattle.mk_mol.specs.FirstFault.{known_atoms}
use Rattle.mk_mol.proofs.FaultLemmas.{below_none, below_more, fault}
use Rattle.mk_mol.proofs.checking.check_atoms.Goals as goal

pub returns-in-Some-clause-fault : goal.returns-in-Some-clause-fault
returns-in-Some-clause-fault c =
    fault c.args.table.now known_atoms c.in-Some.item (below_none c.args.table.now) (rw c.as_slice.ensures at c.in-Some.ensures)

pub returns-in-None-clause-passes : goal.returns-in-None-clause-passes
returns-in-None-clause-passes c = below_more c.args.table.now known_atoms (rw c.as_slice.ensures at c.in-None.ensures) (below_none c.args.table.now)
