-- What stands at a place of a list, and the ends of the bonds of a graph and of a molecule.
--     place_is          what `slice_get` finds is what is read there
--     all_at            what holds of each holds of it
--     drawn_between     the ends of each bond of a graph are two of its atoms
--     bonds_between     and those of each bond of a molecule two of its
use Rattle.std.proofs.Common.{◌≡◌, ℕ, zero, suc, ◌<◌, ◌≤◌, List, [], ◌∷◌, None, Some, length, get_or, map, refl, subst, arith, All}
use Rattle.std.specs.Prelude.{slice_get}
use Rattle.std.proofs.lemmas.List.{length-map, get_or-map}
use Rattle.mk_model.specs.Edges.{IsBetween}
use Rattle.mk_model.specs.Molecules.{Molecule, IsMolecule, edge_of}
use Rattle.mk_model.specs.Graphs.{GraphView, IsGraph, graph_edge}

-- what stands at a place
pub at_place : {X : Type 0} (xs : List X) (k : ℕ) (d : X) → k < length xs → slice_get xs k ≡ Some (get_or xs k d)
at_place [] k d below = absurd (omega arith)
at_place (x ∷ xs) zero d below = refl
at_place (x ∷ xs) (suc k) d below = at_place xs k d (omega arith)

-- where something stands there is such a place
pub place_within : {X : Type 0} (xs : List X) (k : ℕ) (x : X) → slice_get xs k ≡ Some x → k < length xs
place_within [] k x at = absurd cc
place_within (y ∷ xs) zero x at = omega arith
place_within (y ∷ xs) (suc k) x at = (let below = place_within xs k x at in omega arith)

-- and it is what is read there
pub place_is : {X : Type 0} (xs : List X) (k : ℕ) (x d : X) → slice_get xs k ≡ Some x → get_or xs k d ≡ x
place_is xs k x d at = (let there = at_place xs k d (place_within xs k x at) in cc)

-- and where nothing does, the list has ended
pub place_past : {X : Type 0} (xs : List X) (k : ℕ) → length xs ≤ k → slice_get xs k ≡ None
place_past [] k past = refl
place_past (x ∷ xs) zero past = absurd (omega arith)
place_past (x ∷ xs) (suc k) past = place_past xs k (omega arith)

-- what holds of each, at a place
pub all_at : {X : Type 0} (P : X → Type 0) (xs : List X) (k : ℕ) (x : X) → All P xs → slice_get xs k ≡ Some x → P x
all_at P xs k x all at = subst P (place_is xs k x x at) (all k x (place_within xs k x at))

-- what holds of each of a mapped list
pub all_mapped : {X Y : Type 0} (f : X → Y) (P : Y → Type 0) (xs : List X) → All P (map f xs) → All (λ x. P (f x)) xs
all_mapped f P xs all = λ k d below. subst P (get_or-map f xs k d (f d) below) (all k (f d) (omega (arith, length-map xs f)))

-- ---- graphs

-- the ends of each bond of a graph are two of its atoms
pub drawn_between : (graph : GraphView) → IsGraph graph → All (λ bond. IsBetween (length graph.atoms) (graph_edge bond)) graph.bonds
drawn_between graph is = all_mapped graph_edge (IsBetween (length graph.atoms)) graph.bonds is.sketch.graph.ends

-- ---- molecules

-- and those of each bond of a molecule two of its atoms
pub bonds_between : (mol : Molecule) → IsMolecule mol → All (λ bond. IsBetween (length mol.atoms) (edge_of bond)) mol.bonds
bonds_between mol is = all_mapped edge_of (IsBetween (length mol.atoms)) mol.bonds is.graph.ends

-- ---- the ends one by one

pub drawn_first : (graph : GraphView) → IsGraph graph → All (λ bond. 1 ≤ bond.first) graph.bonds
drawn_first graph is = λ k d below. (drawn_between graph is k d below).first.0

pub drawn_second : (graph : GraphView) → IsGraph graph → All (λ bond. bond.second ≤ length graph.atoms) graph.bonds
drawn_second graph is = λ k d below. (drawn_between graph is k d below).second.1

pub bond_first : (mol : Molecule) → IsMolecule mol → All (λ bond. bond.first ≤ length mol.atoms) mol.bonds
bond_first mol is = λ k d below. (bonds_between mol is k d below).first.1

pub bond_second : (mol : Molecule) → IsMolecule mol → All (λ bond. bond.second ≤ length mol.atoms) mol.bonds
bond_second mol is = λ k d below. (bonds_between mol is k d below).second.1
