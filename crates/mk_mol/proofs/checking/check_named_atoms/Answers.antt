use Rattle.mk_mol.specs.FirstFault.{named_atoms}
use Rattle.mk_mol.proofs.FaultLemmas.{below_more, fault}
use Rattle.mk_mol.proofs.checking.check_named_atoms.Goals as goal

pub returns-in-Some-clause-fault : goal.returns-in-Some-clause-fault
returns-in-Some-clause-fault c =
    fault c.args.table.now named_atoms c.in-Some.item c.requires.earlier (rw (c.as_slice.ensures, c.as_slice-2.ensures) at c.in-Some.ensures)

pub returns-in-None-clause-passes : goal.returns-in-None-clause-passes
returns-in-None-clause-passes c =
    below_more c.args.table.now named_atoms (rw (c.as_slice.ensures, c.as_slice-2.ensures) at c.in-None.ensures) c.requires.earlier
