use Rattle.mk_mol.specs.FirstFault.{known_values}
use Rattle.mk_mol.proofs.FaultLemmas.{below_more, fault}
use Rattle.mk_mol.proofs.checking.check_values.Goals as goal

pub returns-in-Some-clause-fault : goal.returns-in-Some-clause-fault
returns-in-Some-clause-fault c = fault c.args.table.now known_values c.in-Some.item c.requires.earlier (rw c.as_slice.ensures at c.in-Some.ensures)

pub returns-in-None-clause-passes : goal.returns-in-None-clause-passes
returns-in-None-clause-passes c = below_more c.args.table.now known_values (rw c.as_slice.ensures at c.in-None.ensures) c.requires.earlier
