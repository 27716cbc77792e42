-- What proofs of the crates above use of this one.
--     same_length, same_at, same_edges      bonds that agree but for their marks are as many, each as its other, with the same edges
--     marked_sketch                         a sketch is one whatever its marks are
--     one_list_of_mol_bonds, one_list_of_graph_bonds      with the marks of a molecule, or of a graph, there is one such list
--     mol_bonds_have_marks, graph_bonds_have_marks        and there is one
pub use Rattle.mk_marks.proofs.BareLemmas.{same_length, same_at, same_edges}
pub use Rattle.mk_marks.proofs.SketchLemmas.{marked_sketch}
pub use Rattle.mk_marks.proofs.LawLemmas.{one_list_of_graph_bonds, one_list_of_mol_bonds}
pub use Rattle.mk_marks.proofs.HaveMarksLemmas.{graph_bonds_have_marks, mol_bonds_have_marks}
