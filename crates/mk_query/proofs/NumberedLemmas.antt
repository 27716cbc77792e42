-- Demands on items that may depend on the item's number: searches for the first item that fails.
use Rattle.std.proofs.Common.{◌≡◌, ◌≤◌, ◌<◌, ◌+◌, ◌-◌, ℕ, List, subst, length, get_or, arith, ⊎_elim}
use Rattle.std.proofs.lemmas.Option.{slice_get_cases}
use Rattle.std.proofs.lemmas.Bool.{cases_lt}
use Rattle.mk_text.specs.Items.{IsLeastFailing, OfItem}
use Rattle.mk_text.proofs.ForCallers.{items-none, of_item-at, of_item-here, of_item-past}

-- the demand on the item of a number
abbrev pub Numbered : {X : Type 0} → (ℕ → X → Type 0) → List X → ℕ → Type 0
Numbered P xs item = OfItem (P item) xs item

-- before the first item
pub numbered-none : {X : Type 0} (P : ℕ → X → Type 0) (xs : List X) (j : ℕ) → j < 0 + 1 → OfItem (P j) xs j
numbered-none P xs j below = items-none (P j) xs j below

-- one item more
pub numbered-more : {X : Type 0} (P : ℕ → X → Type 0) (xs : List X) (k : ℕ) (x : X) → x ≡ get_or xs k x → P (k + 1) x
    → ((j : ℕ) → j < k + 1 → OfItem (P j) xs j) → (j : ℕ) → j < k + 1 + 1 → OfItem (P j) xs j
numbered-more P xs k x is p before j below =
    ⊎_elim (λ earlier. before j earlier)
    (λ here. let same : k + 1 ≡ j = omega arith in subst (λ (i : ℕ). OfItem (P i) xs i) same (of_item-here (P (k + 1)) xs k x is p))
    (cases_lt j (k + 1))

-- the first item that fails
pub numbered-fail : {X : Type 0} (P : ℕ → X → Type 0) (xs : List X) (k : ℕ) (x : X) → k < length xs → x ≡ get_or xs k x
    → (P (k + 1) x → ⊥) → ((j : ℕ) → j < k + 1 → OfItem (P j) xs j) → IsLeastFailing (Numbered P xs) (k + 1)
numbered-fail P xs k x below is fails before = record {
  lower = before;
  fails = λ of. fails (of_item-at (P (k + 1)) xs k x below is of);
}

-- all items are right
pub numbered-all : {X : Type 0} (P : ℕ → X → Type 0) (xs : List X) (k : ℕ) → length xs ≤ k → ((j : ℕ) → j < k + 1 → OfItem (P j) xs j) → (j : ℕ) → OfItem (P j) xs j
numbered-all P xs k all before j =
    ⊎_elim (λ earlier. before j earlier)
    (λ past. of_item-past (P j) xs j (omega arith))
    (cases_lt j (k + 1))

-- ---- demands on the number alone

-- one item more
pub placed-more : {X : Type 0} (P : ℕ → Type 0) (xs : List X) (k : ℕ) → P (k + 1) → ((j : ℕ) → j < k + 1 → OfItem (λ (x : X). P j) xs j) → (j : ℕ) → j < k + 1 + 1 → OfItem (λ (x : X). P j) xs j
placed-more P xs k p before j below =
    ⊎_elim (λ earlier. before j earlier)
    (λ here. let same : k + 1 ≡ j = omega arith in λ x least at. subst P same p)
    (cases_lt j (k + 1))

-- the first item that fails
pub placed-fail : {X : Type 0} (P : ℕ → Type 0) (xs : List X) (k : ℕ) → k < length xs → (P (k + 1) → ⊥)
    → ((j : ℕ) → j < k + 1 → OfItem (λ (x : X). P j) xs j)
    → IsLeastFailing (λ (j : ℕ). OfItem (λ (x : X). P j) xs j) (k + 1)
placed-fail P xs k below fails before = record {
  lower = before;
  fails = λ of.
      ⊎_elim
      (λ found. (let place : k + 1 - 1 ≡ k = omega arith in fails (of found.0 (omega arith) (rw place found.2))))
      (λ none. omega (arith, none.0, below))
      (slice_get_cases xs k).1;
}

-- all items are right
pub placed-all : {X : Type 0} (P : ℕ → Type 0) (xs : List X) (k : ℕ) → length xs ≤ k → ((j : ℕ) → j < k + 1 → OfItem (λ (x : X). P j) xs j) → (j : ℕ) → OfItem (λ (x : X). P j) xs j
placed-all {X} P xs k all before j = numbered-all (λ (i : ℕ) (x : X). P i) xs k all before j
