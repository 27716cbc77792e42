use Rattle.mk_mol.proofs.LawLemmas.{one_fault, no_fault}
use Rattle.mk_mol.proofs.laws.one_first_fault.Goals as goal

pub returns-clause-one : goal.returns-clause-one
returns-clause-one c = one_fault

pub returns-clause-none : goal.returns-clause-none
returns-clause-none c = no_fault
