-- A hit takes the paths of a graph to paths of the molecule with the same bits.
--     path_of_image      the images of a path are a path, with the same bit
--     named_image        the image of a named atom is of the same element
use Rattle.std.proofs.Common.{◌≡◌, ◌≢◌, ℕ, zero, suc, ◌+◌, ◌<◌, ◌≤◌, ◌-◌, inl, inr, Bool, true, false, eqb, List, [], ◌∷◌, length, get_or, map, Option, Some, None, refl, sym, ap, subst, ◌∙◌, arith, All, AllPairs}
use Rattle.std.specs.Prelude.{slice_get, fold, ◌*◌, ◌%◌}
use Rattle.std.proofs.lemmas.Bool.{cases_lt, eqb-true}
use Rattle.std.proofs.lemmas.Bool.Decides.{nat_tests}
use Rattle.std.proofs.lemmas.List.{get_or-map, length-map}
use Rattle.mk_model.specs.declared.atom_test.Kind.{Kind}
use Rattle.mk_model.specs.declared.atom_test.Kind.TheVariants.{Element, OneOf, NoneOf, NotHydrogen, Hetero, Anything}
use Rattle.mk_model.specs.declared.edge.Edge.{Edge}
use Rattle.mk_model.specs.declared.graph.GraphAtom.{GraphAtom}
use Rattle.mk_model.specs.declared.graph.GraphBond.{GraphBond}
use Rattle.mk_model.specs.declared.molecule.Atom.{Atom}
use Rattle.mk_model.specs.declared.molecule.MolBond.{MolBond}
use Rattle.mk_model.specs.Edges.{HasEnds, Joins}
use Rattle.mk_model.specs.Fitting.{LiesOn}
use Rattle.mk_model.specs.Graphs.{GraphView, IsGraph, graph_edge, graph_edges}
use Rattle.mk_model.specs.Hits.{IsEmbedding, image}
use Rattle.mk_model.specs.Molecules.{Molecule, edge_of, edges}
use Rattle.mk_model.specs.Tests.{accepts}
use Rattle.mk_model.proofs.ForCallers.{at_place, place_is, place_within}
use Rattle.mk_model.specs.Screens.{AreJoined, IsBitOf, IsNamed, IsPath, element_at, named_element, path_bit, shown_by_graph, shown_by_mol}

-- what a kind that names an element alone accepts is of that element
named_accepted : (kind : Kind) (element : ℕ) → 2 ≤ named_element kind → accepts kind element ≡ true → element ≡ named_element kind
named_accepted (Element z) element some takes = sym (eqb-true z element takes)
named_accepted (OneOf list) element some takes = absurd (omega arith)
named_accepted (NoneOf list) element some takes = absurd (omega arith)
named_accepted NotHydrogen element some takes = absurd (omega arith)
named_accepted Hetero element some takes = absurd (omega arith)
named_accepted Anything element some takes = absurd (omega arith)

pub within_named : (elements : List ℕ) (i : ℕ) → 2 ≤ get_or elements i 0 → i < length elements
within_named [] i some = absurd (omega arith)
within_named (z ∷ elements) zero some = omega arith
within_named (z ∷ elements) (suc i) some = (let below = within_named elements i some in omega arith)

same_mapped : (f g h : ℕ → ℕ) (xs : List ℕ) → ((i : ℕ) → i < length xs → f (h (get_or xs i 0)) ≡ g (get_or xs i 0)) → map f (map h xs) ≡ map g xs
same_mapped f g h [] same = refl
same_mapped f g h (x ∷ xs) same =
    let first = same 0 (omega arith) in
    let others = same_mapped f g h xs (λ i below. same (suc i) (omega arith)) in
    cc

swap_ends : (edge : Edge) (x y : ℕ) → HasEnds edge x y → HasEnds edge y x
swap_ends edge x y (inl h) = inr h
swap_ends edge x y (inr h) = inl h

module _ (graph : GraphView) (mol : Molecule) (hit : List ℕ) (is : IsEmbedding graph mol hit) where
  -- what the image of a named atom is
  pub record IsNamedImage (x : ℕ) : Type 0 where
    pub element : element_at (shown_by_mol mol).elements (image hit x) ≡ element_at (shown_by_graph graph).elements x
    pub least : 1 ≤ image hit x
    pub place : x - 1 < length hit

  pub named_image : (x : ℕ) → IsNamed (shown_by_graph graph) x → IsNamedImage x
  named_image x named =
      let drawn = shown_by_graph graph in
      let below' : x - 1 < length drawn.elements = within_named drawn.elements (x - 1) named.1 in
      let below : x - 1 < length graph.atoms = omega (arith, length-map graph.atoms (λ (atom : GraphAtom). named_element atom.test.kind)) in
      let fits = is.atoms x named.0 (omega (arith, named.0)) in
      let asked_is : get_or graph.atoms (x - 1) fits.asked ≡ fits.asked = place_is graph.atoms (x - 1) fits.asked fits.asked fits.asked_at in
      let atom_is : get_or mol.atoms (image hit x - 1) fits.atom ≡ fits.atom = place_is mol.atoms (image hit x - 1) fits.atom fits.atom fits.atom_at in
      let atom_below : image hit x - 1 < length mol.atoms = place_within mol.atoms (image hit x - 1) fits.atom fits.atom_at in
      let asks : element_at drawn.elements x ≡ named_element fits.asked.test.kind =
      get_or-map (λ (atom : GraphAtom). named_element atom.test.kind) graph.atoms (x - 1) fits.asked 0 below
      ∙ ap (λ (a : GraphAtom). named_element a.test.kind) asked_is in
      let has : element_at (shown_by_mol mol).elements (image hit x) ≡ fits.atom.element =
      get_or-map (λ (atom : Atom). atom.element) mol.atoms (image hit x - 1) fits.atom 0 atom_below
      ∙ ap (λ (a : Atom). a.element) atom_is in
      let within : x - 1 < length hit = omega (arith, is.one_each) in
      let range = is.within (x - 1) 0 within in
      record {
        element = has ∙ named_accepted fits.asked.test.kind fits.atom.element (omega (arith, asks, named.1)) fits.kind ∙ sym asks;
        least = range.0;
        place = within;
      }

  -- bonded atoms have bonded images
  joined_image : (x y : ℕ) → AreJoined (shown_by_graph graph).bonds x y → AreJoined (shown_by_mol mol).bonds (image hit x) (image hit y)
  joined_image x y joined =
      let b = joined.0 in
      let edge = joined.1.edge in
      let below' : b < length (graph_edges graph.bonds) = place_within (graph_edges graph.bonds) b edge joined.1.at in
      let below : b < length graph.bonds = omega (arith, length-map graph.bonds graph_edge) in
      let d : GraphBond = record { first = 0; second = 0; kind = 0; topology = 0; ring = false; aromatic = false } in
      let bond : GraphBond = get_or graph.bonds b d in
      let edge_is : graph_edge bond ≡ edge = sym (get_or-map graph_edge graph.bonds b d edge below) ∙ place_is (graph_edges graph.bonds) b edge edge joined.1.at in
      let lies : LiesOn mol bond (image hit bond.first) (image hit bond.second) = is.bonds b d below in
      by_ends bond lies (subst (λ (e : Edge). HasEnds e x y) (sym edge_is) joined.1.ends)
    where
      on_bond : (bond : GraphBond) → LiesOn mol bond (image hit bond.first) (image hit bond.second) → (b : ℕ) × Joins (edges mol.bonds) b (image hit bond.first) (image hit bond.second)
      on_bond bond lies =
          let there = lies.joins.0 in
          let k = there.0 in
          let bond_is : get_or mol.bonds k lies.bond ≡ lies.bond = there.2 in
          let below : k < length (edges mol.bonds) = omega (arith, there.1, length-map mol.bonds edge_of) in
          let edge_is : get_or (edges mol.bonds) k (edge_of lies.bond) ≡ edge_of lies.bond = get_or-map edge_of mol.bonds k lies.bond (edge_of lies.bond) there.1 ∙ ap edge_of bond_is in
          (k, record { edge = edge_of lies.bond; at = at_place (edges mol.bonds) k (edge_of lies.bond) below ∙ ap Some edge_is; ends = lies.joins.1 })

      by_ends : (bond : GraphBond) → LiesOn mol bond (image hit bond.first) (image hit bond.second) → HasEnds (graph_edge bond) x y → AreJoined (edges mol.bonds) (image hit x) (image hit y)
      by_ends bond lies (inl h) = (let on = on_bond bond lies in rw (sym h.0, sym h.1) on)
      by_ends bond lies (inr h) =
          (let on = on_bond bond lies in
          rw (sym h.0, sym h.1) (on.0, record { edge = on.1.edge; at = on.1.at; ends = swap_ends on.1.edge _ _ on.1.ends }))

  module _ (path : List ℕ) (of : IsPath (shown_by_graph graph) path) where
    at_image : (i : ℕ) → i < length path → get_or (map (image hit) path) i 0 ≡ image hit (get_or path i 0)
    at_image i below = get_or-map (image hit) path i 0 0 below

    -- distinct atoms have distinct images
    distinct_images : AllPairs (λ a b. a ≢ b) (map (image hit) path)
    distinct_images i j d order within same =
        let below : j < length path = omega (arith, length-map path (image hit)) in
        let before : i < length path = omega arith in
        let x = get_or path i 0 in
        let y = get_or path j 0 in
        let at_x = named_image x (of.named i before) in
        let at_y = named_image y (of.named j below) in
        let named_x = of.named i before in
        let named_y = of.named j below in
        let one : image hit x ≡ image hit y = sym (get_or-map (image hit) path i 0 d before) ∙ same ∙ get_or-map (image hit) path j 0 d below in
        elim (cases_lt x y) [
          | inl less ↦ is.distinct (x - 1) (y - 1) 0 (omega (arith, named_x.0)) at_y.place one
          | inr more ↦ elim (cases_lt y x) [
            | inl less ↦ is.distinct (y - 1) (x - 1) 0 (omega (arith, named_y.0)) at_x.place (sym one)
            | inr up ↦ of.distinct i j 0 order below (omega arith)
          ]
        ]

    -- the images of a path are a path
    pub path_of_image : IsPath (shown_by_mol mol) (map (image hit) path)
    path_of_image = record {
      some = omega (arith, of.some, length-map path (image hit));
      few = omega (arith, of.few, length-map path (image hit));
      named = λ i within. (
          let below : i < length path = omega (arith, length-map path (image hit)) in
          let named = of.named i below in
          let at = named_image (get_or path i 0) named in
          rw (at_image i below) (at.least, omega (arith, at.element, named.1)));
      distinct = distinct_images;
      joined = λ i within. (
          let below : i + 1 < length path = omega (arith, length-map path (image hit)) in
          let before : i < length path = omega arith in
          rw (at_image i before, at_image (i + 1) below) (joined_image (get_or path i 0) (get_or path (i + 1) 0) (of.joined i below)));
    }

    pub same_bit : path_bit (shown_by_mol mol) (map (image hit) path) ≡ path_bit (shown_by_graph graph) path
    same_bit =
        ap (λ (zs : List ℕ). fold (λ value z. value * 131 + z) (length zs) zs % 512)
        (same_mapped (element_at (shown_by_mol mol).elements) (element_at (shown_by_graph graph).elements) (image hit) path
        (λ i below. (named_image (get_or path i 0) (of.named i below)).element))

  -- each bit of the graph is one of the molecule
  pub bit_of_image : (b : ℕ) → IsBitOf (shown_by_graph graph) b → IsBitOf (shown_by_mol mol) b
  bit_of_image b bit = record { path = map (image hit) bit.path; is = path_of_image bit.path bit.is; bit = same_bit bit.path bit.is ∙ bit.bit }
