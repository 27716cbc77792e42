-- Atoms that have one bond alone.
--     touched           a bond that ends at an atom has it for one of its ends
--     one_neighbour     what is bonded to such an atom is one atom, over one bond
--     not_in_six        it stands in no six-ring
--     lone_not_aromatic so its bond of type 1 isn't in the aromatic set
use Rattle.std.proofs.Common.{◌≡◌, ◌≢◌, ◌≤◌, ◌<◌, ◌+◌, ◌%◌, ◌⊎◌, ℕ, zero, suc, Bool, true, false, not, eqb, List, Some, refl, ap, sym, subst, ◌∙◌, inl, inr, length, get_or, take, arith, length-take-le, get_or-take}
use Rattle.std.specs.Prelude.{slice_get}
use Rattle.std.proofs.lemmas.Bool.{cases_eq, cases_order, eq-eqb, ne_eqb}
use Rattle.std.proofs.lemmas.Bool.Decides.{nat_tests}
use Rattle.mk_model.specs.declared.edge.Edge.{Edge}
use Rattle.mk_model.specs.Edges.{HasEnds, HasKind, Joins, degree, touches}
use Rattle.mk_model.specs.Aromatic.{IsAromatic, IsClosed, IsSixCycle, TakesLabels}
use Rattle.mk_model.proofs.EdgesLemmas.{degree_within, touches-ends}
use Rattle.mk_model.proofs.PlaceLemmas.{place_is, place_within}

-- ---- ends

-- a bond that ends at an atom has it for one of its ends
pub touched : (edge : Edge) (n x y : ℕ) → touches n edge ≡ true → HasEnds edge x y → (n ≡ x) ⊎ (n ≡ y)
touched edge n x y ends (inl are) = elim (cases_eq n x) [
  | inl same ↦ inl same
  | inr other ↦ inr (second_one edge n ends (λ e. other (sym e ∙ are.0)) ∙ are.1)
]
  where
    second_one : (edge : Edge) (n : ℕ) → touches n edge ≡ true → edge.first ≢ n → n ≡ edge.second
    second_one edge n ends other = grind (arith, nat_tests, ends, ne_eqb edge.first n other)
touched edge n x y ends (inr are) = elim (cases_eq n y) [
  | inl same ↦ inr same
  | inr other ↦ inl (second_one edge n ends (λ e. other (sym e ∙ are.0)) ∙ are.1)
]
  where
    second_one : (edge : Edge) (n : ℕ) → touches n edge ≡ true → edge.first ≢ n → n ≡ edge.second
    second_one edge n ends other = grind (arith, nat_tests, ends, ne_eqb edge.first n other)

-- the ends of a bond, seen from the other one
pub ends_back : (edge : Edge) (x y : ℕ) → HasEnds edge x y → HasEnds edge y x
ends_back edge x y (inl are) = inr are
ends_back edge x y (inr are) = inl are

pub joins_back : (bonds : List Edge) (b x y : ℕ) → Joins bonds b x y → Joins bonds b y x
joins_back bonds b x y is = record { edge = is.edge; at = is.at; ends = ends_back is.edge x y is.ends }

-- the other end of a bond is one
pub other_same : (edge : Edge) (n x y : ℕ) → HasEnds edge n x → HasEnds edge n y → x ≡ y
other_same edge n x y (inl here) (inl there) = sym here.1 ∙ there.1
other_same edge n x y (inl here) (inr there) = sym here.1 ∙ there.1 ∙ sym here.0 ∙ there.0
other_same edge n x y (inr here) (inl there) = sym here.0 ∙ there.0 ∙ sym here.1 ∙ there.1
other_same edge n x y (inr here) (inr there) = sym here.0 ∙ there.0

-- ---- one bond

-- of an atom with one bond no bond stands before another
no_earlier : (bonds : List Edge) (n i j : ℕ) (d : Edge) → degree bonds n ≡ 1 → i < j → j < length bonds
    → touches n (get_or bonds i d) ≡ true → touches n (get_or bonds j d) ≡ true → ⊥
no_earlier bonds n i j d one order below at_i at_j =
    let same : get_or (take j bonds) i d ≡ get_or bonds i d = get_or-take j bonds i d order in
    let few : i < length (take j bonds) = omega (arith, order, length-take-le j bonds (omega arith)) in
    let first : degree (take i (take j bonds)) n < degree (take j bonds) n = degree_within (take j bonds) i n d few (rw same at_i) in
    let second : degree (take j bonds) n < degree bonds n = degree_within bonds j n d below at_j in
    omega (arith, first, second, one)

-- two bonds of such an atom stand at one place
pub one_bond : (bonds : List Edge) (n i j : ℕ) (e f : Edge) → degree bonds n ≡ 1 → slice_get bonds i ≡ Some e → slice_get bonds j ≡ Some f
    → touches n e ≡ true → touches n f ≡ true → i ≡ j
one_bond bonds n i j e f one at_i at_j ends_i ends_j =
    let is_i : get_or bonds i e ≡ e = place_is bonds i e e at_i in
    let is_j : get_or bonds j e ≡ f = place_is bonds j f e at_j in
    elim (cases_order i j) [
      | inl same ↦ same
      | inr (inl less) ↦ absurd (no_earlier bonds n i j e one less (place_within bonds j f at_j) (rw is_i ends_i) (rw is_j ends_j))
      | inr (inr more) ↦ absurd (no_earlier bonds n j i e one more (place_within bonds i e at_i) (rw is_j ends_j) (rw is_i ends_i))
    ]

-- what is bonded to such an atom is one atom, over one bond
pub one_neighbour : (bonds : List Edge) (n b c x y : ℕ) → degree bonds n ≡ 1 → Joins bonds b n x → Joins bonds c n y → (b ≡ c) × (x ≡ y)
one_neighbour bonds n b c x y one here there =
    let same : b ≡ c = one_bond bonds n b c here.edge there.edge one here.at there.at (touches-ends here.edge n x here.ends) (touches-ends there.edge n y there.ends) in
    let edge : here.edge ≡ there.edge = sym (place_is bonds b here.edge here.edge here.at)
    ∙ ap (λ k. get_or bonds k here.edge) same ∙ place_is bonds c there.edge here.edge there.at in
    (same, other_same here.edge n x y here.ends (subst (λ (e : Edge). HasEnds e n y) (sym edge) there.ends))

-- ---- six-rings

-- each place of a six-ring has one before it, which isn't the one behind it
record HasBefore (i : ℕ) : Type 0 where
  place : ℕ
  below : place < 6
  next : (place + 1) % 6 ≡ i
  behind : (i + 1) % 6 < 6
  apart : place ≢ (i + 1) % 6

has_before : (i : ℕ) → i < 6 → HasBefore i
has_before zero below = record { place = 5; below = omega arith; next = refl; behind = omega arith; apart = λ e. omega (arith, e) }
has_before (suc zero) below = record { place = 0; below = omega arith; next = refl; behind = omega arith; apart = λ e. omega (arith, e) }
has_before (suc (suc zero)) below = record { place = 1; below = omega arith; next = refl; behind = omega arith; apart = λ e. omega (arith, e) }
has_before (suc (suc (suc zero))) below = record { place = 2; below = omega arith; next = refl; behind = omega arith; apart = λ e. omega (arith, e) }
has_before (suc (suc (suc (suc zero)))) below = record { place = 3; below = omega arith; next = refl; behind = omega arith; apart = λ e. omega (arith, e) }
has_before (suc (suc (suc (suc (suc zero))))) below = record { place = 4; below = omega arith; next = refl; behind = omega arith; apart = λ e. omega (arith, e) }
has_before (suc (suc (suc (suc (suc (suc i)))))) below = absurd (omega (arith, below))

-- an atom with one bond stands in no six-ring
pub not_in_six : (bonds : List Edge) (atoms cycle : ℕ → ℕ) → IsSixCycle bonds atoms cycle → (i : ℕ) → i < 6 → degree bonds (atoms i) ≡ 1 → ⊥
not_in_six bonds atoms cycle six i below one =
    let h = has_before i below in
    let behind : Joins bonds (cycle i) (atoms i) (atoms ((i + 1) % 6)) = six.joined i below in
    let before : Joins bonds (cycle h.place) (atoms h.place) (atoms i) =
    subst (λ (k : ℕ). Joins bonds (cycle h.place) (atoms h.place) (atoms k)) h.next (six.joined h.place h.below) in
    let same = one_neighbour bonds (atoms i) (cycle h.place) (cycle i) (atoms h.place) (atoms ((i + 1) % 6)) one (joins_back bonds (cycle h.place) (atoms h.place) (atoms i) before) behind in
    h.apart (six.distinct h.place ((i + 1) % 6) h.below h.behind same.1)

-- the bond of such an atom isn't in the aromatic set where it has type 1
pub lone_not_aromatic : (bonds : List Edge) (b n : ℕ) (edge : Edge) → degree bonds n ≡ 1 → slice_get bonds b ≡ Some edge → touches n edge ≡ true → edge.kind ≡ 1
    → IsAromatic bonds b → ⊥
lone_not_aromatic bonds b n edge one at ends kind aromatic =
    let none : not (eqb b b) ≡ false = rw (eq-eqb b b refl) refl in
    let there : not (eqb b b) ≡ true = aromatic (λ c. not (eqb c b)) closed in
    cc
  where
    other : (c : ℕ) → c ≢ b → not (eqb c b) ≡ true
    other c ne = rw (ne_eqb c b ne) refl

    at_b : (e : Edge) (c : ℕ) → c ≡ b → slice_get bonds c ≡ Some e → e ≡ edge
    at_b e c same at_c = sym (place_is bonds c e e at_c) ∙ ap (λ k. get_or bonds k e) same ∙ place_is bonds b edge e at

    closed : IsClosed bonds (λ c. not (eqb c b))
    closed = record {
      type_four = λ c has. other c (λ same. let is : has.edge ≡ edge = at_b has.edge c same has.at in omega (arith, has.is, kind, ap (λ (e : Edge). e.kind) is));
      six_rings = λ atoms cycle six takes i below. other (cycle i) (λ same.
          let joined : Joins bonds (cycle i) (atoms i) (atoms ((i + 1) % 6)) = six.joined i below in
          let is : joined.edge ≡ edge = at_b joined.edge (cycle i) same joined.at in
          elim (touched edge n (atoms i) (atoms ((i + 1) % 6)) ends (subst (λ (e : Edge). HasEnds e (atoms i) (atoms ((i + 1) % 6))) is joined.ends)) [
            | inl first ↦ not_in_six bonds atoms cycle six i below (subst (λ (m : ℕ). degree bonds m ≡ 1) first one)
            | inr second ↦ not_in_six bonds atoms cycle six ((i + 1) % 6) (has_before i below).behind (subst (λ (m : ℕ). degree bonds m ≡ 1) second one)
          ]);
    }
