-- The marks determine the bonds.
use Rattle.std.proofs.Common.{◌≡◌, ◌<◌, Bool, true, false, List, refl, ap, sym, subst, ◌∙◌, length, get_or, arith, IsTrue}
use Rattle.std.specs.Prelude.{◌↔◌}
use Rattle.std.proofs.lemmas.List.{same_lists, length-map, get_or-map}
use Rattle.mk_model.specs.declared.edge.Edge.{Edge}
use Rattle.mk_model.specs.declared.molecule.MolBond.{MolBond}
use Rattle.mk_model.specs.declared.graph.GraphBond.{GraphBond}
use Rattle.mk_model.specs.Graphs.{HasGraphMarks, graph_edges}
use Rattle.mk_model.specs.Molecules.{HasMarks, edge_of, edges}
use Rattle.mk_model.proofs.ForCallers.{at_place}
use Rattle.mk_marks.specs.Bare.{bare_bond}
use Rattle.mk_marks.specs.Laws.{OneListOfGraphBonds, OneListOfMolBonds}
use Rattle.mk_marks.proofs.BareLemmas.{same_at, same_edges, same_length}

-- tests that are true for one reason are one
pub same_test : (p q : Bool) (P : Type 0) → IsTrue p ↔ P → IsTrue q ↔ P → p ≡ q
same_test true true P e f = refl
same_test false false P e f = refl
same_test true false P e f = let never = f.1 (e.0 refl) in cc
same_test false true P e f = let never = e.1 (f.0 refl) in cc

-- ---- molecules

-- bonds with the same edge and the same marks are one
same_bond : (a b : MolBond) → edge_of a ≡ edge_of b → a.ring ≡ b.ring → a.aromatic ≡ b.aromatic → a ≡ b
same_bond a b e r m =
    ap (λ (x : Edge). record { first = x.first; second = x.second; kind = x.kind; ring = a.ring; aromatic = a.aromatic }) e
    ∙ ap (λ (x : Bool). record { first = b.first; second = b.second; kind = b.kind; ring = x; aromatic = a.aromatic }) r
    ∙ ap (λ (x : Bool). record { first = b.first; second = b.second; kind = b.kind; ring = b.ring; aromatic = x }) m

pub one_list_of_mol_bonds : OneListOfMolBonds
one_list_of_mol_bonds bonds others p q same =
    let size : length bonds ≡ length others = sym (length-map bonds edge_of) ∙ ap length same ∙ length-map others edge_of in
    same_lists bonds others size
    (λ k d below.
    let within : k < length others = omega arith in
    let m = p k (get_or bonds k d) (at_place bonds k d below) in
    let n : HasMarks (edges bonds) k (get_or others k d) = subst (λ (es : List Edge). HasMarks es k (get_or others k d)) (sym same) (q k (get_or others k d) (at_place others k d within)) in
    let alike : edge_of (get_or bonds k d) ≡ edge_of (get_or others k d) =
    sym (get_or-map edge_of bonds k d (edge_of d) below) ∙ ap (λ (es : List Edge). get_or es k (edge_of d)) same ∙ get_or-map edge_of others k d (edge_of d) within in
    same_bond (get_or bonds k d) (get_or others k d) alike (same_test _ _ _ m.ring n.ring) (same_test _ _ _ m.aromatic n.aromatic))

-- ---- graphs

-- bonds of a graph with the same marks that are the same without them are one
same_graph_bond : (b c : GraphBond) → bare_bond b ≡ bare_bond c → b.ring ≡ c.ring → b.aromatic ≡ c.aromatic → b ≡ c
same_graph_bond b c same ring aromatic =
    ap (λ (x : GraphBond). record x { ring = b.ring; aromatic = b.aromatic }) same
    ∙ ap (λ (x : Bool). record c { ring = x; aromatic = b.aromatic }) ring
    ∙ ap (λ (x : Bool). record c { aromatic = x }) aromatic

pub one_list_of_graph_bonds : OneListOfGraphBonds
one_list_of_graph_bonds bonds others p q same =
    let size : length bonds ≡ length others = same_length others bonds same in
    let edges : graph_edges others ≡ graph_edges bonds = sym (same_edges others bonds same) in
    same_lists bonds others size
    (λ k d below.
    let within : k < length others = omega arith in
    let m = p k (get_or bonds k d) (at_place bonds k d below) in
    let n : HasGraphMarks (graph_edges bonds) k (get_or others k d) = subst (λ (es : List Edge). HasGraphMarks es k (get_or others k d)) edges (q k (get_or others k d) (at_place others k d within)) in
    same_graph_bond (get_or bonds k d) (get_or others k d) (same_at others bonds k d same below) (same_test _ _ _ m.ring n.ring) (same_test _ _ _ m.aromatic n.aromatic))
