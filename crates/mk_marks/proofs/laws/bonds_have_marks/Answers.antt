use Rattle.mk_marks.proofs.HaveMarksLemmas.{edges_have_marks, graph_bonds_have_marks, mol_bonds_have_marks, one_list_of_marks}
use Rattle.mk_marks.proofs.laws.bonds_have_marks.Goals as goal

pub returns-clause-edges : goal.returns-clause-edges
returns-clause-edges c = edges_have_marks

pub returns-clause-one : goal.returns-clause-one
returns-clause-one c = one_list_of_marks

pub returns-clause-molecules : goal.returns-clause-molecules
returns-clause-molecules c = mol_bonds_have_marks

pub returns-clause-graphs : goal.returns-clause-graphs
returns-clause-graphs c = graph_bonds_have_marks
