-- The bonds of an atom and those of its image: there are at least as many.
--     one_image    two atoms of a graph with one image are one
--     may_lie      an atom of the graph may lie on its image in a hit
use Rattle.std.proofs.Common.{◌≡◌, ◌≢◌, ℕ, ◌+◌, ◌<◌, ◌≤◌, ◌-◌, inl, inr, true, false, cond, List, [], ◌∷◌, length, get_or, map, refl, sym, subst, ◌∙◌, arith, All, AllPairs, Contains}
use Rattle.std.proofs.lemmas.List.{get_or-map, length-map}
use Rattle.std.proofs.lemmas.List.Kept.{AllPairs-cons}
use Rattle.std.proofs.lemmas.Bool.{cases_lt}
use Rattle.mk_text.proofs.PickedLemmas.{fits_in}
use Rattle.mk_model.specs.declared.edge.Edge.{Edge}
use Rattle.mk_model.specs.declared.graph.GraphBond.{GraphBond}
use Rattle.mk_model.specs.Edges.{HasEnds, IsBetween, Joins, numbers_at, numbers_from, touches}
use Rattle.mk_model.specs.Molecules.{IsMolecule, Molecule, edge_of, edges}
use Rattle.mk_model.specs.Graphs.{GraphView, IsGraph, graph_edge, graph_edges}
use Rattle.mk_model.specs.Fitting.{LiesOn}
use Rattle.mk_model.specs.Edges.{other_end}
use Rattle.mk_model.specs.Hits.{image, IsHit}
use Rattle.mk_model.proofs.ForCallers.{IsNumberOf, at_place, numbers_at-each}
use Rattle.mk_walk.specs.Candidates.{AreBonded, end_numbered}
use Rattle.mk_walk.specs.Table.{MayLie}
use Rattle.mk_walk.proofs.CandidateLemmas.{bonded_end, ends_by}
use Rattle.mk_walk.proofs.ListTestLemmas.{all_cons}

-- ---- the numbers of an atom's bonds are distinct

numbers_later : (j : ℕ) (bonds : List Edge) (n : ℕ) → All (λ k. j ≤ k) (numbers_from j bonds n)
numbers_later j [] n = λ k d within. absurd (omega arith)
numbers_later j (edge ∷ bonds) n =
    let behind : All (λ k. j ≤ k) (numbers_from (j + 1) bonds n) = λ k d within. (let later = numbers_later (j + 1) bonds n k d within in omega arith) in
    elim (touches n edge) as (λ t. All (λ k. j ≤ k) (cond t (j ∷ numbers_from (j + 1) bonds n) (numbers_from (j + 1) bonds n))) [
      | true ↦ all_cons (λ (k : ℕ). j ≤ k) j (numbers_from (j + 1) bonds n) (omega arith) behind
      | false ↦ behind
    ]

numbers_distinct : (j : ℕ) (bonds : List Edge) (n : ℕ) → AllPairs (λ a b. a ≢ b) (numbers_from j bonds n)
numbers_distinct j [] n = λ i k d order within. absurd (omega arith)
numbers_distinct j (edge ∷ bonds) n =
    let behind = numbers_distinct (j + 1) bonds n in
    let first : All (λ k. j ≢ k) (numbers_from (j + 1) bonds n) = λ k d within. (let later = numbers_later (j + 1) bonds n k d within in omega arith) in
    elim (touches n edge) as (λ t. AllPairs (λ a b. a ≢ b) (cond t (j ∷ numbers_from (j + 1) bonds n) (numbers_from (j + 1) bonds n))) [
      | true ↦ AllPairs-cons (λ (a b : ℕ). a ≢ b) j (numbers_from (j + 1) bonds n) first behind
      | false ↦ behind
    ]

-- ---- the neighbours of an atom and their images

no_edge : Edge
no_edge = record { first = 0; second = 0; kind = 0 }

-- the neighbour of atom x by the bond of this number
neighbour : List Edge → ℕ → ℕ → ℕ
neighbour bonds x number = other_end x (get_or bonds (number - 1) no_edge)

-- the bond of a number joins atom x and the neighbour
neighbour_ends : (bonds : List Edge) (x number : ℕ) → IsNumberOf bonds x number → HasEnds (get_or bonds (number - 1) no_edge) x (neighbour bonds x number)
unfolding neighbour
neighbour_ends bonds x number is = ends_by (get_or bonds (number - 1) no_edge) x _ refl (is.ends no_edge)

-- an end of a bond of a graph is an atom
ends_within : (atoms : ℕ) (edge : Edge) (x y : ℕ) → IsBetween atoms edge → HasEnds edge x y → (1 ≤ y) × (y ≤ atoms)
ends_within atoms edge x y between (inl h) = (omega (arith, between.second.0, h.1), omega (arith, between.second.1, h.1))
ends_within atoms edge x y between (inr h) = (omega (arith, between.first.0, h.0), omega (arith, between.first.1, h.0))

-- two atoms of a graph with one image are one
pub one_image : (graph : GraphView) (mol : Molecule) (hit : List ℕ) → IsHit graph mol hit → (y z : ℕ) → (1 ≤ y) × (y ≤ length graph.atoms)
    → (1 ≤ z) × (z ≤ length graph.atoms) → image hit y ≡ image hit z → y ≡ z
one_image graph mol hit is y z range_y range_z same =
    elim (cases_lt y z) [
      | inl less ↦ absurd (is.distinct (y - 1) (z - 1) 0 (omega (arith, range_y.0)) (omega (arith, range_z.0, range_z.1, is.one_each)) same)
      | inr more ↦ elim (cases_lt z y) [
        | inl less ↦ absurd (is.distinct (z - 1) (y - 1) 0 (omega (arith, range_z.0)) (omega (arith, range_y.0, range_y.1, is.one_each)) (sym same))
        | inr up ↦ omega arith
      ]
    ]

module _ (graph : GraphView) (mol : Molecule) (hit : List ℕ) (x : ℕ) (drawing : IsGraph graph) (is : IsHit graph mol hit) where
  numbers : List ℕ
  numbers = numbers_at (graph_edges graph.bonds) x

  image_by : ℕ → ℕ
  image_by number = image hit (neighbour (graph_edges graph.bonds) x number)

  -- two numbers whose neighbours have one image are one
  one_number : (a b : ℕ) → IsNumberOf (graph_edges graph.bonds) x a → IsNumberOf (graph_edges graph.bonds) x b → image_by a ≡ image_by b → a ≡ b
  unfolding image_by
  one_number a b is_a is_b same =
      let bonds = graph_edges graph.bonds in
      let below_a : a - 1 < length bonds = omega (arith, is_a.least, is_a.most) in
      let below_b : b - 1 < length bonds = omega (arith, is_b.least, is_b.most) in
      let ends_a = neighbour_ends bonds x a is_a in
      let ends_b = neighbour_ends bonds x b is_b in
      let range_a = ends_within (length graph.atoms) (get_or bonds (a - 1) no_edge) x (neighbour bonds x a) (drawing.sketch.graph.ends (a - 1) no_edge below_a) ends_a in
      let range_b = ends_within (length graph.atoms) (get_or bonds (b - 1) no_edge) x (neighbour bonds x b) (drawing.sketch.graph.ends (b - 1) no_edge below_b) ends_b in
      let one : neighbour bonds x a ≡ neighbour bonds x b = one_image graph mol hit is (neighbour bonds x a) (neighbour bonds x b) range_a range_b same in
      let joins_a : Joins bonds (a - 1) x (neighbour bonds x a) = record { edge = get_or bonds (a - 1) no_edge; at = at_place bonds (a - 1) no_edge below_a; ends = ends_a } in
      let joins_b : Joins bonds (b - 1) x (neighbour bonds x a) =
      record {
        edge = get_or bonds (b - 1) no_edge;
        at = at_place bonds (b - 1) no_edge below_b;
        ends = subst (HasEnds (get_or bonds (b - 1) no_edge) x) (sym one) ends_b;
      } in
      omega (arith, drawing.sketch.graph.once (a - 1) (b - 1) x (neighbour bonds x a) joins_a joins_b, is_a.least, is_b.least)

  -- the images of the neighbours are distinct
  images_distinct : AllPairs (λ a b. a ≢ b) (map image_by numbers)
  unfolding numbers
  images_distinct i j d order within same =
      let bonds = graph_edges graph.bonds in
      let below : j < length (numbers_at bonds x) = omega (arith, length-map (numbers_at bonds x) image_by) in
      let below' : i < length (numbers_at bonds x) = omega arith in
      let here = get_or-map image_by (numbers_at bonds x) i 0 d below' in
      let there = get_or-map image_by (numbers_at bonds x) j 0 d below in
      numbers_distinct 1 bonds x i j 0 order below
      (one_number (get_or (numbers_at bonds x) i 0) (get_or (numbers_at bonds x) j 0) (numbers_at-each bonds x i below') (numbers_at-each bonds x j below) (sym here ∙ same ∙ there))

  -- the image of a neighbour is bonded to that of the atom
  image_bonded : (a : ℕ) → IsNumberOf (graph_edges graph.bonds) x a → AreBonded mol (image hit x) (image_by a)
  unfolding image_by
  image_bonded a is_a =
      let bonds = graph_edges graph.bonds in
      let below : a - 1 < length graph.bonds = omega (arith, is_a.least, is_a.most, length-map graph.bonds graph_edge) in
      let none : GraphBond = record { first = 0; second = 0; kind = 0; topology = 0; ring = false; aromatic = false } in
      let bond : GraphBond = get_or graph.bonds (a - 1) none in
      let edge_is : get_or bonds (a - 1) no_edge ≡ graph_edge bond = get_or-map graph_edge graph.bonds (a - 1) none no_edge below in
      let ends : HasEnds (graph_edge bond) x (neighbour bonds x a) = subst (λ (e : Edge). HasEnds e x (neighbour bonds x a)) edge_is (neighbour_ends bonds x a is_a) in
      by_ends bond (neighbour bonds x a) ends (is.bonds (a - 1) none below)
    where
      flip : (edge : Edge) (a b : ℕ) → HasEnds edge a b → HasEnds edge b a
      flip edge a b (inl h) = inr h
      flip edge a b (inr h) = inl h

      by_ends : (bond : GraphBond) (y : ℕ) → HasEnds (graph_edge bond) x y → LiesOn mol bond (image hit bond.first) (image hit bond.second) → AreBonded mol (image hit x) (image hit y)
      by_ends bond y (inl h) lies =
          let P : ℕ → Type 0 = λ n. AreBonded mol (image hit n) (image hit bond.second) in
          let Q : ℕ → Type 0 = λ n. AreBonded mol (image hit x) (image hit n) in
          subst Q h.1 (subst P h.0 (lies.bond, lies.joins))
      by_ends bond y (inr h) lies =
          let P : ℕ → Type 0 = λ n. AreBonded mol (image hit n) (image hit bond.first) in
          let Q : ℕ → Type 0 = λ n. AreBonded mol (image hit x) (image hit n) in
          subst Q h.0 (subst P h.1 (lies.bond, (lies.joins.0, flip (edge_of lies.bond) (image hit bond.first) (image hit bond.second) lies.joins.1)))

  -- the other ends of the image's bonds
  ends_there : List ℕ
  ends_there = map (λ number. end_numbered mol.bonds number (image hit x)) (numbers_at (edges mol.bonds) (image hit x))

  images_there : All (Contains ends_there) (map image_by numbers)
  unfolding numbers ends_there
  images_there i d within =
      let bonds = graph_edges graph.bonds in
      let below : i < length (numbers_at bonds x) = omega (arith, length-map (numbers_at bonds x) image_by) in
      let here : get_or (map image_by (numbers_at bonds x)) i d ≡ image_by (get_or (numbers_at bonds x) i 0) = get_or-map image_by (numbers_at bonds x) i 0 d below in
      let end = bonded_end mol (image hit x) (image_by (get_or (numbers_at bonds x) i 0)) (image_bonded (get_or (numbers_at bonds x) i 0) (numbers_at-each bonds x i below)) in
      let ends = numbers_at (edges mol.bonds) (image hit x) in
      let of : ℕ → ℕ = λ number. end_numbered mol.bonds number (image hit x) in
      subst (Contains (map of ends)) (sym here)
      (end.place, omega (arith, end.within, length-map ends of), get_or-map of ends end.place 0 (image_by (get_or (numbers_at bonds x) i 0)) end.within ∙ end.is)

  -- the image of an atom has at least as many bonds
  more_bonds : length (numbers_at (graph_edges graph.bonds) x) ≤ length (numbers_at (edges mol.bonds) (image hit x))
  unfolding numbers ends_there
  more_bonds =
      omega (
        arith,
        fits_in (map image_by (numbers_at (graph_edges graph.bonds) x))
            (map (λ number. end_numbered mol.bonds number (image hit x)) (numbers_at (edges mol.bonds) (image hit x)))
            images_distinct images_there,
        length-map (numbers_at (graph_edges graph.bonds) x) image_by,
        length-map (numbers_at (edges mol.bonds) (image hit x)) (λ number. end_numbered mol.bonds number (image hit x)),
      )

pub may_lie : (graph : GraphView) (mol : Molecule) (hit : List ℕ) (x : ℕ) → IsGraph graph → IsMolecule mol → IsHit graph mol hit → 1 ≤ x → x ≤ length graph.atoms → MayLie graph mol x (image hit x)
may_lie graph mol hit x drawing molecule is least most = record { fits = is.atoms x least most; bonded = more_bonds graph mol hit x drawing is }
