use Rattle.mk_marks.proofs.LawLemmas.{one_list_of_graph_bonds, one_list_of_mol_bonds}
use Rattle.mk_marks.proofs.laws.marks_determine_bonds.Goals as goal

pub returns-clause-molecules : goal.returns-clause-molecules
returns-clause-molecules c = one_list_of_mol_bonds

pub returns-clause-graphs : goal.returns-clause-graphs
returns-clause-graphs c = one_list_of_graph_bonds
