-- The atoms of an element in a graph and in a molecule: a hit needs as many there.
--     enough      where there is a hit, the molecule has as many atoms of an element other than
--                 hydrogen as the graph names
use Rattle.std.proofs.Common.{◌≡◌, ◌≢◌, ℕ, zero, suc, ◌+◌, ◌<◌, ◌≤◌, ◌-◌, inl, inr, Bool, true, false, cond, eqb, eq-eqb, List, [], ◌∷◌, length, get_or, map, refl, sym, ap, subst, ◌∙◌, arith, All, AllPairs, Contains}
use Rattle.std.specs.Cmp.{IsEquivalence}
use Rattle.std.specs.Prelude.{count_by}
use Rattle.std.specs.List.{list_any}
use Rattle.std.specs.Set.{is_member}
use Rattle.std.proofs.lemmas.Bool.{cases_lt, eqb-true, or_cases, or_left, or_right}
use Rattle.std.proofs.lemmas.Bool.Decides.{Decides-eqb, nat_tests}
use Rattle.std.proofs.lemmas.List.{get_or-map, length-map}
use Rattle.std.proofs.lemmas.List.Elements.{All-cons as all_cons}
use Rattle.std.proofs.lemmas.List.Kept.{AllPairs-cons}
use Rattle.std.proofs.lemmas.List.Sums.{sum_by-cons}
use Rattle.std.proofs.lemmas.Map.Made.{IsDistinct-from_AllPairs, length-le_from_is_member}
use Rattle.mk_text.proofs.PickedLemmas.{IsNumberWhere, distinct_where, each_where, fits_in, has_where, length-numbers_where, numbers_where}
use Rattle.mk_model.specs.Graphs.{GraphView}
use Rattle.mk_model.specs.Hits.{IsEmbedding, image}
use Rattle.mk_model.specs.Molecules.{Molecule}
use Rattle.mk_model.specs.Screens.{element_at, shown_by_graph, shown_by_mol}
use Rattle.mk_screen.proofs.ImageLemmas.{named_image, within_named}

-- ---- a hit needs as many

module _ (graph : GraphView) (mol : Molecule) (z : ℕ) (named : 2 ≤ z) (hit : List ℕ) (is : IsEmbedding graph mol hit) where
  of : ℕ → Bool
  of e = eqb e z

  drawn : List ℕ
  drawn = (shown_by_graph graph).elements

  held : List ℕ
  held = (shown_by_mol mol).elements

  -- an atom of the graph that names the element
  is_named : (x : ℕ) → IsNumberWhere of 1 drawn x → (1 ≤ x) × (2 ≤ element_at drawn x)
  unfolding of
  is_named x asks = (asks.least, (let same = eqb-true (get_or drawn (x - 1) 0) z (asks.passes 0) in omega arith))

  -- its image is an atom of that element
  image_of : (x : ℕ) → IsNumberWhere of 1 drawn x → Contains (numbers_where of 1 held) (image hit x)
  unfolding of drawn held
  image_of x asks =
      let at = named_image graph mol hit is x (is_named x asks) in
      let same = eqb-true (get_or drawn (x - 1) 0) z (asks.passes 0) in
      let here : get_or held (image hit x - 1) 0 ≡ z = at.element ∙ same in
      let below : image hit x - 1 < length held = within_named held (image hit x - 1) (omega arith) in
      let number : 1 + (image hit x - 1) ≡ image hit x = omega (arith, at.least) in
      subst (Contains (numbers_where of 1 held)) number (has_where of 1 held (image hit x - 1) 0 below (eq-eqb (get_or held (image hit x - 1) 0) z here))

  asking : List ℕ
  asking = numbers_where of 1 drawn

  distinct : AllPairs (λ a b. a ≢ b) (map (image hit) asking)
  unfolding asking drawn of
  distinct i j d order within same =
      let below : j < length asking = omega (arith, length-map asking (image hit)) in
      let before : i < length asking = omega arith in
      let a = get_or asking i 0 in
      let b = get_or asking j 0 in
      let is_a = each_where of 1 drawn i 0 before in
      let is_b = each_where of 1 drawn j 0 below in
      let at_a = named_image graph mol hit is a (is_named a is_a) in
      let at_b = named_image graph mol hit is b (is_named b is_b) in
      let one : image hit a ≡ image hit b = sym (get_or-map (image hit) asking i 0 d before) ∙ same ∙ get_or-map (image hit) asking j 0 d below in
      elim (cases_lt a b) [
        | inl less ↦ is.distinct (a - 1) (b - 1) 0 (omega (arith, is_a.least)) at_b.place one
        | inr more ↦ elim (cases_lt b a) [
          | inl less ↦ is.distinct (b - 1) (a - 1) 0 (omega (arith, is_b.least)) at_a.place (sym one)
          | inr up ↦ distinct_where of 1 drawn i j 0 order below (omega arith)
        ]
      ]

  there : All (Contains (numbers_where of 1 held)) (map (image hit) asking)
  unfolding asking drawn of
  there i d within =
      let below : i < length asking = omega (arith, length-map asking (image hit)) in
      subst (Contains (numbers_where of 1 held)) (sym (get_or-map (image hit) asking i 0 d below)) (image_of (get_or asking i 0) (each_where of 1 drawn i 0 below))

  -- the molecule has as many atoms of the element as the graph names
  pub enough : count_by (λ e. eqb e z) (shown_by_graph graph).elements ≤ count_by (λ e. eqb e z) (shown_by_mol mol).elements
  unfolding asking drawn held of
  enough =
      omega (arith, fits_in (map (image hit) asking) (numbers_where of 1 held) distinct there, length-map asking (image hit), length-numbers_where of 1 drawn, length-numbers_where of 1 held)
