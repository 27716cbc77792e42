-- The atoms of an element in a graph and in a molecule: a hit needs as many there.
--     enough      where there is a hit, the molecule has as many atoms of an element as the graph asks for
use Rattle.std.proofs.Common.{◌≡◌, ◌≢◌, ℕ, ◌+◌, ◌<◌, ◌≤◌, ◌-◌, inl, inr, true, eqb, List, length, get_or, map, sym, subst, ◌∙◌, arith, All, AllPairs, Contains}
use Rattle.std.specs.Prelude.{count_by}
use Rattle.std.proofs.lemmas.Bool.{cases_lt}
use Rattle.std.proofs.lemmas.Bool.Decides.{nat_tests}
use Rattle.std.proofs.lemmas.List.{get_or-map, length-map}
use Rattle.mk_text.proofs.PickedLemmas.{IsNumberWhere, distinct_where, each_where, fits_in, has_where, length-numbers_where, numbers_where}
use Rattle.mk_model.specs.declared.atom_test.Kind.{Kind}
use Rattle.mk_model.specs.declared.atom_test.Kind.TheVariants.{Element, OneOf, NoneOf, NotHydrogen, Hetero, Anything}
use Rattle.mk_model.specs.declared.graph.GraphAtom.{GraphAtom}
use Rattle.mk_model.specs.declared.molecule.Atom.{Atom}
use Rattle.mk_model.specs.Molecules.{Molecule}
use Rattle.mk_model.specs.Graphs.{GraphView}
use Rattle.mk_model.specs.Tests.{accepts}
use Rattle.mk_model.specs.Hits.{image, IsHit}
use Rattle.mk_model.proofs.ForCallers.{place_is, place_within}
use Rattle.mk_counts.specs.Counts.{asks_for, is_of, names}

-- ---- what asks for an element lies on one

accepted : (z : ℕ) (kind : Kind) (element : ℕ) → names z kind ≡ true → accepts kind element ≡ true → eqb element z ≡ true
accepted z (Element e) element is takes = grind (arith, nat_tests)
accepted z (OneOf list) element is takes = absurd cc
accepted z (NoneOf list) element is takes = absurd cc
accepted z NotHydrogen element is takes = absurd cc
accepted z Hetero element is takes = absurd cc
accepted z Anything element is takes = absurd cc

module _ (graph : GraphView) (mol : Molecule) (z : ℕ) (hit : List ℕ) (is : IsHit graph mol hit) where
  -- the image of an atom that asks for the element is one of its atoms
  image_of : (x : ℕ) → IsNumberWhere (asks_for z) 1 graph.atoms x → Contains (numbers_where (is_of z) 1 mol.atoms) (image hit x)
  image_of x asks =
      let least = asks.least in
      let most : x ≤ length graph.atoms = omega (arith, asks.most) in
      let fits = is.atoms x least most in
      let within : x - 1 < length hit = omega (arith, is.one_each) in
      let range = is.within (x - 1) 0 within in
      let asked_is : get_or graph.atoms (x - 1) fits.asked ≡ fits.asked = place_is graph.atoms (x - 1) fits.asked fits.asked fits.asked_at in
      let named : names z fits.asked.test.kind ≡ true = subst (λ (a : GraphAtom). asks_for z a ≡ true) asked_is (asks.passes fits.asked) in
      let of : is_of z fits.atom ≡ true = accepted z fits.asked.test.kind fits.atom.element named fits.kind in
      let atom_is : get_or mol.atoms (image hit x - 1) fits.atom ≡ fits.atom = place_is mol.atoms (image hit x - 1) fits.atom fits.atom fits.atom_at in
      let below : image hit x - 1 < length mol.atoms = place_within mol.atoms (image hit x - 1) fits.atom fits.atom_at in
      let number : 1 + (image hit x - 1) ≡ image hit x = omega (arith, range.0) in
      subst (Contains (numbers_where (is_of z) 1 mol.atoms)) number
      (has_where (is_of z) 1 mol.atoms (image hit x - 1) fits.atom below (subst (λ (a : Atom). is_of z a ≡ true) (sym atom_is) of))

  -- the molecule has as many atoms of an element as the graph asks for
  pub enough : count_by (asks_for z) graph.atoms ≤ count_by (is_of z) mol.atoms
  enough =
      let asking = numbers_where (asks_for z) 1 graph.atoms in
      omega (
        arith,
        fits_in (map (image hit) asking) (numbers_where (is_of z) 1 mol.atoms) distinct there,
        length-map asking (image hit),
        length-numbers_where (asks_for z) 1 graph.atoms,
        length-numbers_where (is_of z) 1 mol.atoms,
      )
    where
      distinct : AllPairs (λ a b. a ≢ b) (map (image hit) (numbers_where (asks_for z) 1 graph.atoms))
      distinct i j d order within same =
          let asking = numbers_where (asks_for z) 1 graph.atoms in
          let below : j < length asking = omega (arith, length-map asking (image hit)) in
          let below' : i < length asking = omega arith in
          let here = get_or-map (image hit) asking i 0 d below' in
          let there = get_or-map (image hit) asking j 0 d below in
          let a = get_or asking i 0 in
          let b = get_or asking j 0 in
          let is_a = each_where (asks_for z) 1 graph.atoms i 0 below' in
          let is_b = each_where (asks_for z) 1 graph.atoms j 0 below in
          let other = distinct_where (asks_for z) 1 graph.atoms i j 0 order below in
          let one : image hit a ≡ image hit b = sym here ∙ same ∙ there in
          elim (cases_lt a b) [
            | inl less ↦ is.distinct (a - 1) (b - 1) 0 (omega (arith, is_a.least)) (omega (arith, is_b.least, is_b.most, is.one_each)) one
            | inr more ↦ is.distinct (b - 1) (a - 1) 0 (omega (arith, is_b.least)) (omega (arith, is_a.least, is_a.most, is.one_each)) (sym one)
          ]

      there : All (Contains (numbers_where (is_of z) 1 mol.atoms)) (map (image hit) (numbers_where (asks_for z) 1 graph.atoms))
      there i d within =
          let asking = numbers_where (asks_for z) 1 graph.atoms in
          let below : i < length asking = omega (arith, length-map asking (image hit)) in
          let here = get_or-map (image hit) asking i 0 d below in
          subst (Contains (numbers_where (is_of z) 1 mol.atoms)) (sym here) (image_of (get_or asking i 0) (each_where (asks_for z) 1 graph.atoms i 0 below))
