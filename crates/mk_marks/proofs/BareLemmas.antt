-- Bonds of a graph that agree but for their marks.
--     same_length, same_at, same_edges      they are as many, each agrees with its other, and their edges are the same
use Rattle.std.proofs.Common.{◌≡◌, ◌<◌, ◌∙◌, ℕ, List, [], ◌∷◌, ap, arith, get_or, length, refl, sym}
use Rattle.std.proofs.lemmas.List.{length-map, get_or-map}
use Rattle.mk_model.specs.declared.edge.Edge.{Edge}
use Rattle.mk_model.specs.declared.graph.GraphBond.{GraphBond}
use Rattle.mk_model.specs.Graphs.{graph_edge, graph_edges}
use Rattle.mk_marks.specs.Bare.{bare_bond, bare_bonds}

-- how many there are
pub same_length : (old new : List GraphBond) → bare_bonds new ≡ bare_bonds old → length new ≡ length old
same_length old new same = sym (length-map new bare_bond) ∙ ap length same ∙ length-map old bare_bond

-- each without its marks
pub same_at : (old new : List GraphBond) (k : ℕ) (d : GraphBond) → bare_bonds new ≡ bare_bonds old → k < length new → bare_bond (get_or new k d) ≡ bare_bond (get_or old k d)
same_at old new k d same below =
    sym (get_or-map bare_bond new k d (bare_bond d) below) ∙ ap (λ (xs : List GraphBond). get_or xs k (bare_bond d)) same
    ∙ get_or-map bare_bond old k d (bare_bond d) (let long = same_length old new same in omega arith)

-- the edges
edges_bare : (bonds : List GraphBond) → graph_edges (bare_bonds bonds) ≡ graph_edges bonds
edges_bare [] = refl
edges_bare (bond ∷ bonds) = ap (λ (edges : List Edge). graph_edge bond ∷ edges) (edges_bare bonds)

pub same_edges : (old new : List GraphBond) → bare_bonds new ≡ bare_bonds old → graph_edges new ≡ graph_edges old
same_edges old new same = sym (edges_bare new) ∙ ap graph_edges same ∙ edges_bare old
