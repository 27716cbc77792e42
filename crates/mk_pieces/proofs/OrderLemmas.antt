-- Bonds put in order.
--     pairs_once      no two of the bonds join one pair
--     ordered_of      so they are ordered
--     one_order       two lists in order that hold the same are one
use Rattle.std.proofs.Common.{◌≡◌, ◌∙◌, ◌⊎◌, ℕ, zero, suc, ◌<◌, inl, inr, false, ltb, List, [], ◌∷◌, length, get_or, map, refl, sym, ap, subst, arith, All}
use Rattle.std.specs.Prelude.{AllPairs, Contains}
use Rattle.std.specs.List.Sorted.{IsPermutation}
use Rattle.std.proofs.lemmas.Bool.Decides.{nat_tests}
use Rattle.std.proofs.lemmas.List.{get_or-map, get_or_default, length-map}
use Rattle.std.proofs.lemmas.List.Sorted.{Contains-permutation, IsPermutation-sym}
use Rattle.mk_model.specs.declared.graph.GraphBond.{GraphBond}
use Rattle.mk_model.specs.declared.template.QueryBond.{QueryBond}
use Rattle.mk_model.specs.BondOrder.{HaveNoPairTwice, lower_first}
use Rattle.mk_model.specs.Edges.{HasEnds}
use Rattle.mk_model.specs.Graphs.{IsBefore, graph_edge}
use Rattle.mk_pieces.specs.Fragments.{AreApart, HasOrdered, IsLowerFirst, bare}

-- ---- the bonds of a fragment

-- two bonds that don't join one pair don't do so in either order of their ends
never_joined : (bond later : QueryBond) → bond.first < bond.second → later.first < later.second → AreApart bond later → HasEnds (graph_edge (bare bond)) later.first later.second → ⊥
never_joined bond later less less' apart (inl same) = apart same.0 same.1
never_joined bond later less less' apart (inr same) = omega (arith, same.0, same.1)

module _ (atoms : ℕ) (bonds : List QueryBond) (ends : All (IsLowerFirst atoms) bonds) where
  -- a bond with its lower end first stays as it is
  abbrev drawn_bonds : List GraphBond
  drawn_bonds = map bare bonds

  bare_at : (k : ℕ) (p : QueryBond) (d : GraphBond) → k < length bonds → get_or (map bare bonds) k d ≡ bare (get_or bonds k p)
  bare_at k p d below = get_or-map bare bonds k p d below

  no_bond : QueryBond
  no_bond = record { first = 0; second = 0; kind = 0; topology = 0 }

  pub pairs_once : AllPairs AreApart bonds → HaveNoPairTwice (map bare bonds)
  pairs_once apart i j d less below =
      let inside : j < length bonds = omega (arith, length-map bonds bare) in
      let one = ends i no_bond (omega arith) in
      let other = ends j no_bond inside in
      rw (bare_at i no_bond d (omega arith), bare_at j no_bond d inside)
      (never_joined (get_or bonds i no_bond) (get_or bonds j no_bond) one.less other.less (apart i j no_bond less inside))

  kept_at : (k : ℕ) (p : QueryBond) (d : GraphBond) → k < length bonds → get_or (map lower_first (map bare bonds)) k d ≡ bare (get_or bonds k p)
  kept_at k p d below =
      let inside : k < length (map bare bonds) = omega (arith, length-map bonds bare) in
      let end = ends k p below in
      let test : ltb (get_or bonds k p).second (get_or bonds k p).first ≡ false = (let less = end.less in grind (arith, nat_tests)) in
      get_or-map lower_first (map bare bonds) k d d inside ∙ rw (bare_at k p d below, test) refl

  size : length (map lower_first (map bare bonds)) ≡ length bonds
  size = length-map (map bare bonds) lower_first ∙ length-map bonds bare

  pub ordered_of : (drawn : List GraphBond) → IsPermutation (map lower_first (map bare bonds)) drawn → AllPairs IsBefore drawn → HasOrdered bonds drawn
  ordered_of drawn same order = record {
    order = order;
    each = λ d inside.
        let there = Contains-permutation drawn (map lower_first (map bare bonds)) d (IsPermutation-sym (map lower_first (map bare bonds)) drawn same) inside in
        let below : there.0 < length bonds = omega (arith, size, there.1) in
        (get_or bonds there.0 no_bond, (there.0, below, get_or_default bonds there.0 (get_or bonds there.0 no_bond) no_bond below), sym (kept_at there.0 no_bond d below) ∙ there.2);
    all = λ bond inside.
        let below : inside.0 < length (map lower_first (map bare bonds)) = omega (arith, size, inside.1) in
        Contains-permutation (map lower_first (map bare bonds)) drawn (bare bond) same (inside.0, below, kept_at inside.0 bond (bare bond) inside.1 ∙ ap bare inside.2);
  }

-- ---- two lists in order

-- one before another before a third
pub before_through : (b c d : GraphBond) → IsBefore b c → IsBefore c d → IsBefore b d
before_through b c d (inl h) (inl g) = inl (omega arith)
before_through b c d (inl h) (inr g) = inl (omega (arith, g.0))
before_through b c d (inr h) (inl g) = inl (omega (arith, h.0))
before_through b c d (inr h) (inr g) = inr (h.0 ∙ g.0, omega (arith, h.1, g.1))

-- no bond stands before itself
never_itself : (bond : GraphBond) → IsBefore bond bond → ⊥
never_itself bond (inl less) = absurd (omega arith)
never_itself bond (inr less) = absurd (omega (arith, less.1))

-- each bond that the others hold stands behind the first
pub behind_first : (bond : GraphBond) (bonds : List GraphBond) (other : GraphBond) → AllPairs IsBefore (bond ∷ bonds) → Contains bonds other → IsBefore bond other
behind_first bond bonds other order is = subst (IsBefore bond) is.2 (order 0 (suc is.0) other (omega arith) (omega (arith, is.1)))

-- and the others are in order
pub others_ordered : (bond : GraphBond) (bonds : List GraphBond) → AllPairs IsBefore (bond ∷ bonds) → AllPairs IsBefore bonds
others_ordered bond bonds order i j d less within = order (suc i) (suc j) d (omega arith) (omega arith)

-- the first is held
pub first_in : (bond : GraphBond) (bonds : List GraphBond) → Contains (bond ∷ bonds) bond
first_in bond bonds = (0, omega arith, refl)

-- so is each of the others
pub other_in : (bond : GraphBond) (bonds : List GraphBond) (other : GraphBond) → Contains bonds other → Contains (bond ∷ bonds) other
other_in bond bonds other is = (suc is.0, omega (arith, is.1), is.2)

-- and no more
pub first_or_other : (bond : GraphBond) (bonds : List GraphBond) (held : GraphBond) → Contains (bond ∷ bonds) held → (bond ≡ held) ⊎ Contains bonds held
first_or_other bond bonds held is = by_place is.0 is.1 is.2
  where
    by_place : (k : ℕ) → k < length (bond ∷ bonds) → get_or (bond ∷ bonds) k held ≡ held → (bond ≡ held) ⊎ Contains bonds held
    by_place zero below same = inl same
    by_place (suc k) below same = inr (k, omega arith, same)

-- what the one list holds the other holds
abbrev pub AreIn : List GraphBond → List GraphBond → Type 0
AreIn bonds others = (bond : GraphBond) → Contains bonds bond → Contains others bond

-- two lists in order that hold the same begin alike
same_first : (b c : GraphBond) (bonds others : List GraphBond) → AllPairs IsBefore (b ∷ bonds) → AllPairs IsBefore (c ∷ others) → Contains (c ∷ others) b → Contains (b ∷ bonds) c → b ≡ c
same_first b c bonds others order order' to from =
    elim (first_or_other c others b to) [
      | inl same ↦ sym same
      | inr late ↦ elim (first_or_other b bonds c from) [
        | inl same ↦ same
        | inr later ↦ absurd (never_itself b (before_through b c b (behind_first b bonds c order later) (behind_first c others b order' late)))
      ]
    ]

-- what else the one holds, the other holds behind its own first
others_in : (b : GraphBond) (bonds others : List GraphBond) → AllPairs IsBefore (b ∷ bonds) → AreIn (b ∷ bonds) (b ∷ others) → AreIn bonds others
others_in b bonds others order held bond is =
    elim (first_or_other b others bond (held bond (other_in b bonds bond is))) [
      | inl same ↦ absurd (never_itself b (subst (IsBefore b) (sym same) (behind_first b bonds bond order is)))
      | inr behind ↦ behind
    ]

-- so they are one
pub one_order : (bonds others : List GraphBond) → AllPairs IsBefore bonds → AllPairs IsBefore others → AreIn bonds others → AreIn others bonds → bonds ≡ others
one_order [] [] order order' to from = refl
one_order [] (c ∷ others) order order' to from = (let never = from c (first_in c others) in absurd (omega (arith, never.1)))
one_order (b ∷ bonds) [] order order' to from = (let never = to b (first_in b bonds) in absurd (omega (arith, never.1)))
one_order (b ∷ bonds) (c ∷ others) order order' to from =
    let same : b ≡ c = same_first b c bonds others order order' (to b (first_in b bonds)) (from c (first_in c others)) in
    let ordered : AllPairs IsBefore (b ∷ others) = subst (λ (x : GraphBond). AllPairs IsBefore (x ∷ others)) (sym same) order' in
    let to' : AreIn (b ∷ bonds) (b ∷ others) = subst (λ (x : GraphBond). AreIn (b ∷ bonds) (x ∷ others)) (sym same) to in
    let from' : AreIn (b ∷ others) (b ∷ bonds) = subst (λ (x : GraphBond). AreIn (x ∷ others) (b ∷ bonds)) (sym same) from in
    let rest = one_order bonds others (others_ordered b bonds order) (others_ordered b others ordered) (others_in b bonds others order to') (others_in b others bonds ordered from') in
    ap (λ (x : GraphBond). x ∷ bonds) same ∙ ap (λ (xs : List GraphBond). c ∷ xs) rest
