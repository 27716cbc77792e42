-- Atoms that hang together, and the blocks of links.
--     hangs, hangs_tested     the test in words, and back
--     hangs_same, hangs_back, hangs_on, hangs_by     it is an equivalence that holds each bond
--     hangs_closed            and the least one
--     one_block               no atom is in the blocks of two links
use Rattle.std.proofs.Common.{◌≡◌, ℕ, zero, suc, Bool, true, false, not, cond, ◌&&◌, ◌||◌, ◌⊎◌, inl, inr, List, [], ◌∷◌, refl, sym, subst, ◌∙◌, arith}
use Rattle.std.specs.Prelude.{◌==◌, Contains, IsTrue, filter}
use Rattle.std.proofs.lemmas.Bool.Decides.{nat_tests}
use Rattle.mk_text.proofs.ForCallers.{both, and_true, or_left, or_right}
use Rattle.mk_model.specs.declared.template.QueryBond.{QueryBond}
use Rattle.mk_model.specs.declared.template.Slot.TheVariants.{Link}
use Rattle.mk_model.specs.Templates.{TemplateView, bonds_without, hang_together, is_in_block, joins}
use Rattle.mk_model.specs.QueryFits.{HasClosedBlocks, HoldsItsBlock, IsMarked}

-- ---- in words

-- x and y hang together: they are one, or do so without the bond, or through it either way
abbrev pub Hangs : List QueryBond → ℕ → ℕ → Type 0
Hangs [] x y = x ≡ y
Hangs (bond ∷ bonds) x y = Hangs bonds x y ⊎ ((Hangs bonds x bond.first × Hangs bonds bond.second y) ⊎ (Hangs bonds x bond.second × Hangs bonds bond.first y))

-- one of two tests
either : (a b : Bool) → (a || b) ≡ true → (a ≡ true) ⊎ (b ≡ true)
either true b holds = inl refl
either false b holds = inr holds

pub hangs : (bonds : List QueryBond) (x y : ℕ) → hang_together bonds x y ≡ true → Hangs bonds x y
unfolding hang_together
hangs [] x y is = grind (arith, nat_tests)
hangs (bond ∷ bonds) x y is =
    let through = either (hang_together bonds x bond.first && hang_together bonds bond.second y) (hang_together bonds x bond.second && hang_together bonds bond.first y) in
    elim (either (hang_together bonds x y) _ is) [
      | inl without ↦ inl (hangs bonds x y without)
      | inr with_it ↦ elim (through with_it) [
        | inl forth ↦ (let ends = both _ _ forth in inr (inl (hangs bonds x bond.first ends.0, hangs bonds bond.second y ends.1)))
        | inr back ↦ (let ends = both _ _ back in inr (inr (hangs bonds x bond.second ends.0, hangs bonds bond.first y ends.1)))
      ]
    ]

pub hangs_tested : (bonds : List QueryBond) (x y : ℕ) → Hangs bonds x y → hang_together bonds x y ≡ true
unfolding hang_together
hangs_tested [] x y is = grind (arith, nat_tests)
hangs_tested (bond ∷ bonds) x y (inl without) = or_left (hang_together bonds x y) _ (hangs_tested bonds x y without)
hangs_tested (bond ∷ bonds) x y (inr (inl forth)) =
    or_right (hang_together bonds x y) _ (or_left (hang_together bonds x bond.first && hang_together bonds bond.second y) _
    (and_true _ _ (hangs_tested bonds x bond.first forth.0) (hangs_tested bonds bond.second y forth.1)))
hangs_tested (bond ∷ bonds) x y (inr (inr back)) =
    or_right (hang_together bonds x y) _ (or_right (hang_together bonds x bond.first && hang_together bonds bond.second y) _
    (and_true _ _ (hangs_tested bonds x bond.second back.0) (hangs_tested bonds bond.first y back.1)))

-- ---- the least equivalence that holds each bond

pub hangs_same : (bonds : List QueryBond) (x : ℕ) → Hangs bonds x x
hangs_same [] x = refl
hangs_same (bond ∷ bonds) x = inl (hangs_same bonds x)

pub hangs_back : (bonds : List QueryBond) (x y : ℕ) → Hangs bonds x y → Hangs bonds y x
hangs_back [] x y is = sym is
hangs_back (bond ∷ bonds) x y (inl without) = inl (hangs_back bonds x y without)
hangs_back (bond ∷ bonds) x y (inr (inl forth)) = inr (inr (hangs_back bonds bond.second y forth.1, hangs_back bonds x bond.first forth.0))
hangs_back (bond ∷ bonds) x y (inr (inr back)) = inr (inl (hangs_back bonds bond.first y back.1, hangs_back bonds x bond.second back.0))

pub hangs_on : (bonds : List QueryBond) (x y z : ℕ) → Hangs bonds x y → Hangs bonds y z → Hangs bonds x z
hangs_on [] x y z p q = p ∙ q
hangs_on (bond ∷ bonds) x y z (inl p) (inl q) = inl (hangs_on bonds x y z p q)
hangs_on (bond ∷ bonds) x y z (inl p) (inr (inl q)) = inr (inl (hangs_on bonds x y bond.first p q.0, q.1))
hangs_on (bond ∷ bonds) x y z (inl p) (inr (inr q)) = inr (inr (hangs_on bonds x y bond.second p q.0, q.1))
hangs_on (bond ∷ bonds) x y z (inr (inl p)) (inl q) = inr (inl (p.0, hangs_on bonds bond.second y z p.1 q))
hangs_on (bond ∷ bonds) x y z (inr (inl p)) (inr (inl q)) = inr (inl (p.0, q.1))
hangs_on (bond ∷ bonds) x y z (inr (inl p)) (inr (inr q)) = inl (hangs_on bonds x bond.first z p.0 q.1)
hangs_on (bond ∷ bonds) x y z (inr (inr p)) (inl q) = inr (inr (p.0, hangs_on bonds bond.first y z p.1 q))
hangs_on (bond ∷ bonds) x y z (inr (inr p)) (inr (inl q)) = inl (hangs_on bonds x bond.second z p.0 q.1)
hangs_on (bond ∷ bonds) x y z (inr (inr p)) (inr (inr q)) = inr (inr (p.0, q.1))

-- the ends of a bond hang together
pub hangs_by : (bonds : List QueryBond) (bond : QueryBond) → Contains bonds bond → Hangs bonds bond.first bond.second
hangs_by [] bond (k, below, is) = absurd (omega (arith, below))
hangs_by (b ∷ bonds) bond (zero, below, is) =
    let same : b ≡ bond = is in
    subst (λ (c : QueryBond). Hangs (b ∷ bonds) c.first c.second) same (inr (inl (hangs_same bonds b.first, hangs_same bonds b.second)))
hangs_by (b ∷ bonds) bond (suc k, below, is) = inl (hangs_by bonds bond (k, omega (arith, below), is))

-- a set that goes along each bond, either way
pub record GoesAlong (P : ℕ → Type 0) (bonds : List QueryBond) : Type 0 where
  pub forth : (bond : QueryBond) → Contains bonds bond → P bond.first → P bond.second
  pub back : (bond : QueryBond) → Contains bonds bond → P bond.second → P bond.first

goes_others : (P : ℕ → Type 0) (bond : QueryBond) (bonds : List QueryBond) → GoesAlong P (bond ∷ bonds) → GoesAlong P bonds
goes_others P bond bonds goes = record {
  forth = λ b at. goes.forth b (suc at.0, (let below = at.1 in omega arith), at.2);
  back = λ b at. goes.back b (suc at.0, (let below = at.1 in omega arith), at.2);
}

-- holds all that hangs together with one of its own
pub hangs_closed : (P : ℕ → Type 0) (bonds : List QueryBond) (x y : ℕ) → GoesAlong P bonds → Hangs bonds x y → P x → P y
hangs_closed P [] x y goes is here = subst P is here
hangs_closed P (bond ∷ bonds) x y goes (inl without) here = hangs_closed P bonds x y (goes_others P bond bonds goes) without here
hangs_closed P (bond ∷ bonds) x y goes (inr (inl forth)) here =
    let others = goes_others P bond bonds goes in
    hangs_closed P bonds bond.second y others forth.1 (goes.forth bond (0, omega arith, refl) (hangs_closed P bonds x bond.first others forth.0 here))
hangs_closed P (bond ∷ bonds) x y goes (inr (inr back)) here =
    let others = goes_others P bond bonds goes in
    hangs_closed P bonds bond.first y others back.1 (goes.back bond (0, omega arith, refl) (hangs_closed P bonds x bond.second others back.0 here))

-- ---- what is left of a list

-- one more in front
one_more : {X : Type 0} (x y : X) (xs : List X) → Contains xs x → Contains (y ∷ xs) x
one_more x y xs (k, below, is) = (suc k, omega (arith, below), is)

-- what is kept by a test is one of the list
pub kept_within : {X : Type 0} (p : X → Bool) (xs : List X) (x : X) → Contains (filter p xs) x → Contains xs x × (p x ≡ true)
kept_within p [] x (k, below, is) = absurd (omega (arith, below))
kept_within {X} p (y ∷ xs) x at = by_test (p y) refl at (kept_within p xs x)
  where
    by_test : (b : Bool) → p y ≡ b → Contains (cond b (y ∷ filter p xs) (filter p xs)) x → (Contains (filter p xs) x → Contains xs x × (p x ≡ true)) → Contains (y ∷ xs) x × (p x ≡ true)
    by_test true e (zero, below, is) others = (let same : y ≡ x = is in ((0, omega arith, is), subst (λ (z : X). p z ≡ true) same e))
    by_test true e (suc k, below, is) others = (let found = others (k, omega (arith, below), is) in (one_more x y xs found.0, found.1))
    by_test false e at others = (let found = others at in (one_more x y xs found.0, found.1))

-- and one of the list that passes is kept
pub kept_all : {X : Type 0} (p : X → Bool) (xs : List X) (x : X) → Contains xs x → p x ≡ true → Contains (filter p xs) x
kept_all p [] x (k, below, is) passes = absurd (omega (arith, below))
kept_all {X} p (y ∷ xs) x at passes = by_test (p y) refl at (λ at'. kept_all p xs x at' passes)
  where
    by_test : (b : Bool) → p y ≡ b → Contains (y ∷ xs) x → (Contains xs x → Contains (filter p xs) x) → Contains (cond b (y ∷ filter p xs) (filter p xs)) x
    by_test true e (zero, below, is) others = (0, omega arith, is)
    by_test true e (suc k, below, is) others = one_more x y (filter p xs) (others (k, omega (arith, below), is))
    by_test false e (zero, below, is) others = (let same : y ≡ x = is in let fails : p x ≡ false = subst (λ (z : X). p z ≡ false) same e in absurd cc)
    by_test false e (suc k, below, is) others = others (k, omega (arith, below), is)

-- ---- blocks

-- a bond that joins x to another has x at an end
joins_end : (x y : ℕ) (bond : QueryBond) → joins x y bond ≡ true → (bond.first ≡ x) ⊎ (bond.second ≡ x)
joins_end x y bond is =
    elim (either ((bond.first == x) && (bond.second == y)) ((bond.first == y) && (bond.second == x)) is) [
      | inl forth ↦ (let tests = both (bond.first == x) (bond.second == y) forth in let test = tests.0 in inl (grind (arith, nat_tests)))
      | inr back ↦ (let tests = both (bond.first == y) (bond.second == x) back in let test = tests.1 in inr (grind (arith, nat_tests)))
    ]

-- a bond without an end at x is no bond of its link
no_link_bond : (x from to : ℕ) (bond : QueryBond) → (bond.first ≡ x → ⊥) → (bond.second ≡ x → ⊥) → not (joins x from bond || joins x to bond) ≡ true
no_link_bond x from to bond first second = by_tests (joins x from bond) (joins x to bond) refl refl
  where
    never : (y : ℕ) → joins x y bond ≡ true → ⊥
    never y is = elim (joins_end x y bond is) [ inl at ↦ first at | inr at ↦ second at ]

    by_tests : (a b : Bool) → joins x from bond ≡ a → joins x to bond ≡ b → not (a || b) ≡ true
    by_tests true b e e' = absurd (never from e)
    by_tests false true e e' = absurd (never to e')
    by_tests false false e e' = refl

module _ (template : TemplateView) (blocks : HasClosedBlocks template) (a most from to b most' from' to' : ℕ)
    (one : Contains template.slots (Link a most from to)) (other : Contains template.slots (Link b most' from' to')) (differ : a ≡ b → ⊥) where
  -- the bonds without those of the one link, and without those of the other
  abbrev of_one : List QueryBond
  of_one = bonds_without (Link a most from to) template.bonds

  abbrev of_other : List QueryBond
  of_other = bonds_without (Link b most' from' to') template.bonds

  -- the block of the one doesn't hold the other
  apart : Hangs of_one a b → ⊥
  apart is =
      let closed : HoldsItsBlock template (Link a most from to) = subst (HoldsItsBlock template) one.2 (blocks one.0 (Link a most from to) one.1) in
      let marked : IsMarked template b = inr (Link b most' from' to', other, refl) in
      differ (sym ((closed b (hangs_tested of_one a b is)).2 marked))

  -- what hangs together with a link in its block does so without the bonds of the other link
  abbrev InBoth : ℕ → Type 0
  InBoth x = Hangs of_one a x × Hangs of_other a x

  along : GoesAlong InBoth of_one
  along = record {
    forth = λ bond at here.
        let there : Hangs of_one a bond.second = hangs_on of_one a bond.first bond.second here.0 (hangs_by of_one bond at) in
        let kept = kept_all (λ c. not (joins b from' c || joins b to' c)) template.bonds bond (kept_within _ template.bonds bond at).0
        (no_link_bond b from' to' bond (λ e. apart (subst (Hangs of_one a) e here.0)) (λ e. apart (subst (Hangs of_one a) e there))) in
        (there, hangs_on of_other a bond.first bond.second here.1 (hangs_by of_other bond kept));
    back = λ bond at here.
        let there : Hangs of_one a bond.first = hangs_on of_one a bond.second bond.first here.0 (hangs_back of_one bond.first bond.second (hangs_by of_one bond at)) in
        let kept = kept_all (λ c. not (joins b from' c || joins b to' c)) template.bonds bond (kept_within _ template.bonds bond at).0
        (no_link_bond b from' to' bond (λ e. apart (subst (Hangs of_one a) e there)) (λ e. apart (subst (Hangs of_one a) e here.0))) in
        (there, hangs_on of_other a bond.second bond.first here.1 (hangs_back of_other bond.first bond.second (hangs_by of_other bond kept)));
  }

  without_other : (x : ℕ) → Hangs of_one a x → Hangs of_other a x
  without_other x is = (hangs_closed InBoth of_one a x along is (hangs_same of_one a, hangs_same of_other a)).1

-- no atom is in the blocks of two links
pub one_block : (template : TemplateView) → HasClosedBlocks template → (a most from to b most' from' to' x : ℕ)
    → Contains template.slots (Link a most from to) → Contains template.slots (Link b most' from' to')
    → IsTrue (is_in_block template (Link a most from to) x) → IsTrue (is_in_block template (Link b most' from' to') x) → (a ≡ b → ⊥) → ⊥
one_block template blocks a most from to b most' from' to' x one other in_one in_other differ =
    let first = bonds_without (Link a most from to) template.bonds in
    let second = bonds_without (Link b most' from' to') template.bonds in
    let here : Hangs second a x = without_other template blocks a most from to b most' from' to' one other differ x (hangs first a x in_one) in
    let back : Hangs second b a = hangs_on second b x a (hangs second b x in_other) (hangs_back second a x here) in
    apart template blocks b most' from' to' a most from to other one (λ e. differ (sym e)) back
