use Rattle.mk_model.proofs.OnceLemmas.{kept, one}
use Rattle.mk_model.proofs.code_laws.hydrogens_are_taken_once.Goals as goal

pub returns-clause-kept : goal.returns-clause-kept
returns-clause-kept c = λ graph mol images drawing molecule is. kept graph mol drawing molecule images is

pub returns-clause-one : goal.returns-clause-one
returns-clause-one c = λ graph mol a b drawing molecule in_a in_b agree plain_a plain_b. one graph mol drawing molecule a b in_a in_b agree plain_a plain_b
