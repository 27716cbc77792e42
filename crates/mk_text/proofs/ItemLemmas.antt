-- Searches for the first item that fails: the demands on the items so far, one item more, and what is found.
use Rattle.std.proofs.Common.{◌≡◌, ◌≤◌, ◌<◌, ◌+◌, ◌-◌, ℕ, List, Some, ap, sym, subst, ◌∙◌, length, get_or, arith, ⊎_elim}
use Rattle.std.specs.Prelude.{All, slice_get}
use Rattle.std.proofs.lemmas.Bool.{cases_lt, cases_order}
use Rattle.std.proofs.lemmas.List.{get_or_default}
use Rattle.std.proofs.lemmas.Option.{get_or_from_slice_get, slice_get-get_or, slice_get_within}
use Rattle.mk_text.specs.Items.{OfItem, IsLeastFailing}

-- ---- items

-- the item behind the first k
pub of_item-here : {X : Type 0} (P : X → Type 0) (xs : List X) (k : ℕ) (x : X) → x ≡ get_or xs k x → P x → OfItem P xs (k + 1)
of_item-here P xs k x is p = λ y least at.
    let place : k + 1 - 1 ≡ k = omega arith in
    let same : get_or xs k x ≡ y = get_or_from_slice_get xs k y x (rw place at at) in
    subst P (is ∙ same) p

-- what holds of the item behind the first k
pub of_item-at : {X : Type 0} (P : X → Type 0) (xs : List X) (k : ℕ) (x : X) → k < length xs → x ≡ get_or xs k x → OfItem P xs (k + 1) → P x
of_item-at P xs k x below is of =
    let place : k + 1 - 1 ≡ k = omega arith in
    of x (omega arith) (rw place (slice_get-get_or xs k x below ∙ ap Some (sym is)))

-- an item past the last is right
pub of_item-past : {X : Type 0} (P : X → Type 0) (xs : List X) (item : ℕ) → length xs < item → OfItem P xs item
of_item-past P xs item past = λ x least at. absurd (omega (arith, slice_get_within xs (item - 1) x at))

-- ---- loops

-- before the first item
pub items-none : {X : Type 0} (P : X → Type 0) (xs : List X) (j : ℕ) → j < 0 + 1 → OfItem P xs j
items-none P xs j below = λ x least at. absurd (omega arith)

-- one item more
pub items-more : {X : Type 0} (P : X → Type 0) (xs : List X) (k : ℕ) (x : X) → x ≡ get_or xs k x → P x → ((j : ℕ) → j < k + 1 → OfItem P xs j) → (j : ℕ) → j < k + 1 + 1 → OfItem P xs j
items-more P xs k x is p before j below =
    ⊎_elim (λ earlier. before j earlier)
    (λ here. let same : k + 1 ≡ j = omega arith in subst (λ (i : ℕ). OfItem P xs i) same (of_item-here P xs k x is p))
    (cases_lt j (k + 1))

-- the first item that fails
pub items-fail : {X : Type 0} (P : X → Type 0) (xs : List X) (k : ℕ) (x : X) → k < length xs → x ≡ get_or xs k x
    → (P x → ⊥) → ((j : ℕ) → j < k + 1 → OfItem P xs j) → IsLeastFailing (OfItem P xs) (k + 1)
items-fail P xs k x below is fails before = record {
  lower = before;
  fails = λ of. fails (of_item-at P xs k x below is of);
}

-- the same of an element that is read at its place
pub items-more_at : {X : Type 0} (P : X → Type 0) (xs : List X) (k : ℕ) (d : X) → k < length xs → P (get_or xs k d) → ((j : ℕ) → j < k + 1 → OfItem P xs j) → (j : ℕ) → j < k + 1 + 1 → OfItem P xs j
items-more_at P xs k d below p before = items-more P xs k (get_or xs k d) (get_or_default xs k d (get_or xs k d) below) p before

pub items-fail_at : {X : Type 0} (P : X → Type 0) (xs : List X) (k : ℕ) (d : X) → k < length xs → (P (get_or xs k d) → ⊥) → ((j : ℕ) → j < k + 1 → OfItem P xs j) → IsLeastFailing (OfItem P xs) (k + 1)
items-fail_at P xs k d below fails before = items-fail P xs k (get_or xs k d) below (get_or_default xs k d (get_or xs k d) below) fails before

-- the same of an element that `slice_get` gives
pub items-more_get : {X : Type 0} (P : X → Type 0) (xs : List X) (k : ℕ) (x : X) → slice_get xs k ≡ Some x → P x → ((j : ℕ) → j < k + 1 → OfItem P xs j) → (j : ℕ) → j < k + 1 + 1 → OfItem P xs j
items-more_get P xs k x got p before = items-more P xs k x (sym (get_or_from_slice_get xs k x x got)) p before

pub items-fail_get : {X : Type 0} (P : X → Type 0) (xs : List X) (k : ℕ) (x : X) → slice_get xs k ≡ Some x → (P x → ⊥) → ((j : ℕ) → j < k + 1 → OfItem P xs j) → IsLeastFailing (OfItem P xs) (k + 1)
items-fail_get P xs k x got fails before = items-fail P xs k x (slice_get_within xs k x got) (sym (get_or_from_slice_get xs k x x got)) fails before

-- all items are right
pub items-all : {X : Type 0} (P : X → Type 0) (xs : List X) (k : ℕ) → length xs ≤ k → ((j : ℕ) → j < k + 1 → OfItem P xs j) → (j : ℕ) → OfItem P xs j
items-all P xs k all before j =
    ⊎_elim (λ earlier. before j earlier)
    (λ past. of_item-past P xs j (omega arith))
    (cases_lt j (k + 1))

-- all elements are right
pub all_of : {X : Type 0} (P : X → Type 0) (xs : List X) → ((item : ℕ) → OfItem P xs item) → All P xs
all_of P xs all k d below = of_item-at P xs k (get_or xs k d) below (get_or_default xs k d (get_or xs k d) below) (all (k + 1))

-- ---- the least

-- a demand fails first at one item
pub one_item : (Demand : ℕ → Type 0) (i j : ℕ) → IsLeastFailing Demand i → IsLeastFailing Demand j → i ≡ j
one_item Demand i j p q =
    ⊎_elim (λ same. same)
    (λ ne. ⊎_elim (λ below. absurd (p.fails (q.lower i below))) (λ above. absurd (q.fails (p.lower j above))) ne)
    (cases_order i j)
