-- Bonds as edges, as far as their ends are atoms.
use Rattle.std.proofs.Common.{◌≡◌, ◌≤◌, ◌<◌, ◌+◌, ℕ, List, [], ◌∷◌, ◌++◌, refl, ap, sym, subst, ◌∙◌, length, get_or, take, arith}
use Rattle.std.specs.Prelude.{ℤ, pos, negsuc, All}
use Rattle.std.proofs.lemmas.List.{map_more, length-map, length-take-le, get_or_default}
use Rattle.std.proofs.lemmas.List.Elements.{All-more, All-push, All-nil}
use Rattle.std.proofs.lemmas.Int.{ints}
use Rattle.mk_model.specs.declared.edge.Edge.{Edge}
use Rattle.mk_model.specs.Edges.{IsBetween, AreBetween}
use Rattle.mk_tables.specs.declared.raw.RawBond.{RawBond}
use Rattle.mk_demands.specs.Numbers.{natural, IsAtom}
use Rattle.mk_demands.specs.Bonds.{HasTwoEnds, raw_edge, edges_of, IsEdgeFront}
use Rattle.mk_demands.specs.BondSearch.{IsEdge}
use Rattle.mk_text.proofs.ForCallers.{of_item-at}

-- ---- numbers

-- the number of an atom
pub atom_is : (atoms : ℕ) (z : ℤ) → IsAtom atoms z → z ≡ pos (natural z)
atom_is atoms (pos n) is = refl
atom_is atoms (negsuc n) is = absurd (omega (arith, ints, is.least))

-- is one of the atoms
pub atom_within : (atoms : ℕ) (z : ℤ) → IsAtom atoms z → (1 ≤ natural z) × (natural z ≤ atoms)
atom_within atoms (pos n) is = (omega (arith, ints, is.least), omega (arith, ints, is.most))
atom_within atoms (negsuc n) is = absurd (omega (arith, ints, is.least))

-- atoms of different numbers differ
pub atoms_differ : (atoms : ℕ) (y z : ℤ) → IsAtom atoms y → IsAtom atoms z → natural y ≡ natural z → y ≡ z
atoms_differ atoms y z y_is z_is same = atom_is atoms y y_is ∙ ap pos same ∙ sym (atom_is atoms z z_is)

-- ---- one bond

-- the edge of a bond whose ends are two atoms is between them
pub IsBetween-edge_of : (atoms : ℕ) (bond : RawBond) → HasTwoEnds atoms bond → IsBetween atoms (raw_edge bond)
IsBetween-edge_of atoms bond ends = record {
  first = atom_within atoms bond.first ends.first;
  second = atom_within atoms bond.second ends.second;
  differ = λ same. ends.differ (atoms_differ atoms bond.first bond.second ends.first ends.second same);
}

pub IsEdge-edge_of : (atoms : ℕ) (bond : RawBond) (edge : Edge) → edge ≡ raw_edge bond → HasTwoEnds atoms bond → IsEdge atoms bond edge
IsEdge-edge_of atoms bond edge is ends = record {
  ends = ends;
  is = is;
  between = let P : Edge → Type 0 = IsBetween atoms in subst P (sym is) (IsBetween-edge_of atoms bond ends);
}

-- ---- the edges of the first bonds

-- the edges of the first so many bonds, all of which have two atoms for ends
pub record AreEdges (atoms : ℕ) (bonds : List RawBond) (k : ℕ) (edges : List Edge) : Type 0 where
  pub edges_are : edges ≡ edges_of (take k bonds)
  pub ends : All (HasTwoEnds atoms) (take k bonds)
  pub between : AreBetween atoms edges

pub edges-none : (atoms : ℕ) (bonds : List RawBond) (edges : List Edge) → edges ≡ [] → AreEdges atoms bonds 0 edges
edges-none atoms bonds edges is = record {
  edges_are = is;
  ends = All-nil (HasTwoEnds atoms);
  between = let P : List Edge → Type 0 = AreBetween atoms in subst P (sym is) (All-nil (IsBetween atoms));
}

-- one bond more
pub edges-more : (atoms : ℕ) (bonds : List RawBond) (k : ℕ) (d : RawBond) (edges : List Edge) (edge : Edge)
    → k < length bonds → IsEdge atoms (get_or bonds k d) edge → AreEdges atoms bonds k edges
    → AreEdges atoms bonds (k + 1) (edges ++ edge ∷ [])
edges-more atoms bonds k d edges edge below is are = record {
  edges_are = rw (are.edges_are, is.is) (sym (map_more raw_edge bonds k d below));
  ends = All-more (HasTwoEnds atoms) bonds k d below are.ends is.ends;
  between = All-push (IsBetween atoms) edges edge are.between is.between;
}

-- as many edges as bonds
edges-size : (atoms : ℕ) (bonds : List RawBond) (k : ℕ) (edges : List Edge) → k ≤ length bonds → AreEdges atoms bonds k edges → length edges ≡ k
edges-size atoms bonds k edges few are = ap length are.edges_are ∙ length-map (take k bonds) raw_edge ∙ length-take-le k bonds few

-- the edges before a bond whose ends aren't two atoms
pub front-stops : (atoms : ℕ) (bonds : List RawBond) (k : ℕ) (d : RawBond) (edges : List Edge) → k < length bonds
    → (HasTwoEnds atoms (get_or bonds k d) → ⊥) → AreEdges atoms bonds k edges → IsEdgeFront atoms bonds edges
front-stops atoms bonds k d edges below fails are =
    let size : length edges ≡ k = edges-size atoms bonds k edges (omega arith) are in
    record {
      few = omega arith;
      edges_are = rw size are.edges_are;
      ends = rw size are.ends;
      between = are.between;
      stops = λ _ of. fails (of_item-at (HasTwoEnds atoms) bonds k (get_or bonds k d) below (get_or_default bonds k d (get_or bonds k d) below) (rw size at of));
    }

-- the edges of all bonds
pub front-all : (atoms : ℕ) (bonds : List RawBond) (k : ℕ) (edges : List Edge) → k ≤ length bonds → length bonds ≤ k → AreEdges atoms bonds k edges → IsEdgeFront atoms bonds edges
front-all atoms bonds k edges few all are =
    let size : length edges ≡ k = edges-size atoms bonds k edges few are in
    record {
      few = omega arith;
      edges_are = rw size are.edges_are;
      ends = rw size are.ends;
      between = are.between;
      stops = λ below of. absurd (omega arith);
    }
