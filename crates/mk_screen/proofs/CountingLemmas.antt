-- Counts of the elements that are counted, one atom more.
--     counts_none, counts_more      no atom, and one atom more
use Rattle.std.proofs.Common.{◌≡◌, ◌≢◌, ℕ, zero, suc, ◌+◌, ◌<◌, ◌≤◌, inl, inr, Bool, true, false, not, ◌&&◌, cond, eqb, ltb, List, [], ◌∷◌, length, get_or, map, min, set, take, refl, sym, ap, ◌∙◌, arith}
use Rattle.std.specs.Prelude.{count_by}
use Rattle.std.specs.List.{list_any}
use Rattle.std.proofs.lemmas.Bool.{and_parts, cases_Bool, cases_lt, eq-eqb, eqb-false, eqb-true, le-ltb, lt-ltb, ne_eqb}
use Rattle.std.proofs.lemmas.Bool.Decides.{nat_tests}
use Rattle.std.proofs.lemmas.List.{length-map}
use Rattle.std.proofs.lemmas.List.Sums.{count_by_more_no, count_by_more_yes}
use Rattle.mk_model.specs.Screens.{capped_count, counted}
use Rattle.mk_screen.specs.Counting.{counted_at, one_more, place_in}

-- no number stands twice
abbrev are_once : List ℕ → Bool
are_once [] = true
are_once (z ∷ zs) = not (list_any (λ y. eqb y z) zs) && are_once zs

negated : (b : Bool) → not b ≡ true → b ≡ false
negated true e = absurd cc
negated false e = refl

-- where one value changes, and its number doesn't stand in the list, the list stays
same_others : (f g : ℕ → ℕ) (z : ℕ) (zs : List ℕ) → ((y : ℕ) → y ≢ z → g y ≡ f y) → list_any (λ y. eqb y z) zs ≡ false → map f zs ≡ map g zs
same_others f g z [] others none = refl
same_others f g z (y ∷ ys) others none =
    let first : eqb y z ≡ false = grind (arith, nat_tests, none) in
    let later : list_any (λ y. eqb y z) ys ≡ false = grind (arith, nat_tests, none) in
    let here : g y ≡ f y = others y (eqb-false y z first) in
    let there = same_others f g z ys others later in
    cc

-- where one value changes, it is the one at the place of its number
one_changes : (f g : ℕ → ℕ) (z : ℕ) (zs : List ℕ) → ((y : ℕ) → y ≢ z → g y ≡ f y) → g z ≡ one_more (f z) → are_once zs ≡ true → counted_at (map f zs) (place_in z zs) ≡ map g zs
one_changes f g z [] others here once = refl
one_changes f g z (y ∷ ys) others here once =
    let parts = and_parts (not (list_any (λ x. eqb x y) ys)) (are_once ys) once in
    elim (cases_Bool (eqb y z)) [
      | inl same ↦
          (let is : y ≡ z = eqb-true y z same in
          let none : list_any (λ x. eqb x z) ys ≡ false = rw is at (negated (list_any (λ x. eqb x y) ys) parts.0) in
          let later = same_others f g z ys others none in
          let first : one_more (f y) ≡ g y = rw is (sym here) in
          let within : ltb 0 (suc (length (map f ys))) ≡ true = lt-ltb 0 (suc (length (map f ys))) (omega arith) in
          let whole : one_more (f y) ∷ map f ys ≡ g y ∷ map g ys = cc in
          rw (same, within) whole)
      | inr other ↦
          (let first : g y ≡ f y = others y (eqb-false y z other) in
          let later = one_changes f g z ys others here parts.1 in
          rw other (behind (f y) (map f ys) (place_in z ys) ∙ ap (λ (ns : List ℕ). f y ∷ ns) later ∙ ap (λ (n : ℕ). n ∷ map g ys) (sym first)))
    ]
  where
    behind : (n : ℕ) (ns : List ℕ) (at : ℕ) → counted_at (n ∷ ns) (suc at) ≡ n ∷ counted_at ns at
    behind n ns at = elim (cases_Bool (ltb at (length ns))) [
      | inl within ↦ (let within' : ltb (suc at) (suc (length ns)) ≡ true = grind (arith, nat_tests, within) in rw (within, within') refl)
      | inr past ↦ (let past' : ltb (suc at) (suc (length ns)) ≡ false = grind (arith, nat_tests, past) in rw (past, past') refl)
    ]

-- no atom
pub counts_none : map (capped_count []) counted ≡ 0 ∷ 0 ∷ 0 ∷ 0 ∷ 0 ∷ 0 ∷ 0 ∷ 0 ∷ 0 ∷ 0 ∷ 0 ∷ 0 ∷ 0 ∷ 0 ∷ 0 ∷ 0 ∷ []
counts_none = refl

-- one atom more
pub counts_more : (elements : List ℕ) (k : ℕ) → k < length elements
    → counted_at (map (capped_count (take k elements)) counted) (place_in (get_or elements k 0) counted) ≡ map (capped_count (take (k + 1) elements)) counted
counts_more elements k below =
    one_changes (capped_count (take k elements)) (capped_count (take (k + 1) elements)) (get_or elements k 0) counted other same refl
  where
    -- the count of another element stays, and that of this one rises
    other : (z : ℕ) → z ≢ get_or elements k 0 → capped_count (take (k + 1) elements) z ≡ capped_count (take k elements) z
    other z differs = ap (min 15) (count_by_more_no (λ e. eqb e z) elements k 0 below (ne_eqb (get_or elements k 0) z (λ is. differs (sym is))))

    same : capped_count (take (k + 1) elements) (get_or elements k 0) ≡ one_more (capped_count (take k elements) (get_or elements k 0))
    same =
        ap (min 15) (count_by_more_yes (λ e. eqb e (get_or elements k 0)) elements k 0 below (eq-eqb (get_or elements k 0) (get_or elements k 0) refl))
        ∙ capped (count_by (λ e. eqb e (get_or elements k 0)) (take k elements))
      where
        capped : (n : ℕ) → min 15 (n + 1) ≡ one_more (min 15 n)
        capped n = elim (cases_lt n 15) [
          | inl less ↦ (let is : ltb (min 15 n) 15 ≡ true = lt-ltb (min 15 n) 15 (omega arith) in rw is (omega arith))
          | inr more ↦ (let is : ltb (min 15 n) 15 ≡ false = le-ltb (min 15 n) 15 (omega arith) in rw is (omega arith))
        ]
