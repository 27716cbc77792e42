-- Tests on lists, and what they say of each element.
--     any_found, any_given      some element passes
--     all_found, all_given      each element passes
--     distinct_found, distinct_given      no number stands twice
use Rattle.std.proofs.Common.{◌≡◌, ◌≢◌, ℕ, zero, suc, ◌<◌, Bool, true, false, not, ◌||◌, eqb, List, [], ◌∷◌, length, get_or, refl, ap, sym, ◌∙◌, arith, All}
use Rattle.std.specs.List.{list_all, list_any, AllByRecursion, AllPairs, Contains}
use Rattle.std.proofs.lemmas.Bool.{ne_eqb}
use Rattle.std.proofs.lemmas.Bool.Decides.{nat_tests}
use Rattle.std.proofs.lemmas.List.Kept.{AllPairs-cons}
use Rattle.mk_text.proofs.ForCallers.{both, and_true, not_true, neither, or_left, or_right}
use Rattle.mk_walk.specs.Plain.{are_distinct}

-- ---- one by one

-- one more at the front
pub all_cons : {X : Type 0} (P : X → Type 0) (x : X) (xs : List X) → P x → All P xs → All P (x ∷ xs)
all_cons P x xs here there zero d lt = here
all_cons P x xs here there (suc k) d lt = there k d (omega arith)

-- of the first
pub all_head : {X : Type 0} (P : X → Type 0) (x : X) (xs : List X) → All P (x ∷ xs) → P x
all_head P x xs all = all 0 x (omega arith)

-- of the others
pub all_tail : {X : Type 0} (P : X → Type 0) (x : X) (xs : List X) → All P (x ∷ xs) → All P xs
all_tail P x xs all = λ k d lt. all (suc k) d (omega arith)

-- ---- some and all

module _ {X : Type 0} (p : X → Bool) where
  -- an element that passes
  pub record IsFound (xs : List X) : Type 0 where
    pub x : X
    pub at : Contains xs x
    pub passes : p x ≡ true

  found_by : (y : X) (xs : List X) (b : Bool) → p y ≡ b → (b || list_any p xs) ≡ true → (list_any p xs ≡ true → IsFound xs) → IsFound (y ∷ xs)
  found_by y xs true e any there = record { x = y; at = (0, omega arith, refl); passes = e }
  found_by y xs false e any there =
      let f = there any in
      record { x = f.x; at = (suc f.at.0, (let lt = f.at.1 in omega arith), f.at.2); passes = f.passes }

  pub any_found : (xs : List X) → list_any p xs ≡ true → IsFound xs
  any_found [] any = absurd cc
  any_found (y ∷ xs) any = found_by y xs (p y) refl any (any_found xs)

  pub any_given : (xs : List X) (x : X) (k : ℕ) → k < length xs → get_or xs k x ≡ x → p x ≡ true → list_any p xs ≡ true
  any_given [] x k within at passes = absurd (omega arith)
  any_given (y ∷ xs) x zero within at passes = or_left (p y) (list_any p xs) (ap p at ∙ passes)
  any_given (y ∷ xs) x (suc k) within at passes = or_right (p y) (list_any p xs) (any_given xs x k (omega arith) at passes)

  pub all_found : (xs : List X) → list_all p xs ≡ true → All (λ x. p x ≡ true) xs
  all_found [] all = λ k d lt. absurd (omega arith)
  all_found (y ∷ xs) all = let h = both (p y) (list_all p xs) all in all_cons (λ (x : X). p x ≡ true) y xs h.0 (all_found xs h.1)

  pub all_given : (xs : List X) → All (λ x. p x ≡ true) xs → list_all p xs ≡ true
  all_given [] all = refl
  all_given (y ∷ xs) all = and_true (p y) (list_all p xs) (all_head (λ (x : X). p x ≡ true) y xs all) (all_given xs (all_tail (λ (x : X). p x ≡ true) y xs all))

-- what holds of each by recursion holds at each place
pub all_places : {X : Type 0} (P : X → Type 0) (xs : List X) → AllByRecursion P xs → All P xs
all_places P [] each = λ k d lt. absurd (omega arith)
all_places P (x ∷ xs) each = all_cons P x xs each.0 (all_places P xs each.1)

-- and the other way round
pub all_recursion : {X : Type 0} (P : X → Type 0) (xs : List X) → All P xs → AllByRecursion P xs
all_recursion P [] all = tt
all_recursion P (x ∷ xs) all = (all_head P x xs all, all_recursion P xs (all_tail P x xs all))

-- ---- no atom twice

-- none of the others is the first
others_differ : (a : ℕ) (others : List ℕ) → list_any (λ b. eqb b a) others ≡ false → All (λ b. a ≢ b) others
others_differ a [] none = λ k d lt. absurd (omega arith)
others_differ a (b ∷ others) none =
    let h = neither (eqb b a) (list_any (λ b. eqb b a) others) none in
    all_cons (λ (c : ℕ). a ≢ c) b others (λ same. (let e = h.0 in absurd (grind (arith, nat_tests)))) (others_differ a others h.1)

-- the test for distinct atoms says that they are
pub distinct_found : (hit : List ℕ) → are_distinct hit ≡ true → AllPairs (λ a b. a ≢ b) hit
distinct_found [] distinct = λ i j d order within. absurd (omega arith)
distinct_found (a ∷ others) distinct =
    let h = both (not (list_any (λ b. eqb b a) others)) (are_distinct others) distinct in
    AllPairs-cons (λ (x y : ℕ). x ≢ y) a others (others_differ a others (not_true _ h.0)) (distinct_found others h.1)

-- others that differ from the first
none_equal : (a : ℕ) (others : List ℕ) → All (λ b. a ≢ b) others → list_any (λ b. eqb b a) others ≡ false
none_equal a [] differ = refl
none_equal a (b ∷ others) differ =
    rw (ne_eqb b a (λ same. all_head (λ (c : ℕ). a ≢ c) b others differ (sym same))) (none_equal a others (all_tail (λ (c : ℕ). a ≢ c) b others differ))

-- the first differs from all others
first_differs : (a : ℕ) (others : List ℕ) → AllPairs (λ a b. a ≢ b) (a ∷ others) → All (λ b. a ≢ b) others
first_differs a others pairs = λ k d within. pairs 0 (suc k) d (omega arith) (omega arith)

-- distinct atoms pass the test
pub distinct_given : (hit : List ℕ) → AllPairs (λ a b. a ≢ b) hit → are_distinct hit ≡ true
distinct_given [] pairs = refl
distinct_given (a ∷ others) pairs =
    let none = none_equal a others (first_differs a others pairs) in
    rw none (distinct_given others (λ i j d order within. pairs (suc i) (suc j) d (omega arith) (omega arith)))
