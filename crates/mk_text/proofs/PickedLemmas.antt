-- The numbers of the items of a list that pass a test, and how many there are.
--     fits_in                  distinct numbers that all stand in another list are no more than it has
--     numbers_where p k xs     the numbers of the items that pass, where the first item has the number k
--     length-numbers_where     they are as many as there are items that pass
--     each_where, has_where    each is the number of such an item, and each such item has its number there
--     distinct_where           no number stands twice
use Rattle.std.proofs.Common.{◌≡◌, ◌≢◌, ℕ, zero, suc, ◌+◌, ◌<◌, ◌≤◌, ◌-◌, inl, inr, Bool, true, false, cond, eqb, eq-eqb, List, [], ◌∷◌, length, get_or, refl, sym, ap, subst, ◌∙◌, arith, All, AllPairs, Contains}
use Rattle.std.specs.Cmp.{IsEquivalence}
use Rattle.std.specs.Prelude.{count_by}
use Rattle.std.specs.List.{list_any}
use Rattle.std.specs.Set.{is_member}
use Rattle.std.proofs.lemmas.Bool.{or_cases, or_left, or_right}
use Rattle.std.proofs.lemmas.Bool.Decides.{Decides-eqb, nat_tests}
use Rattle.std.proofs.lemmas.List.Elements.{All-cons as all_cons}
use Rattle.std.proofs.lemmas.List.Kept.{AllPairs-cons}
use Rattle.std.proofs.lemmas.List.Sums.{sum_by-cons}
use Rattle.std.proofs.lemmas.Map.Made.{IsDistinct-from_AllPairs, length-le_from_is_member}

-- ---- distinct numbers that all stand in another list

-- numbers that are equal are one
nat_equivalence : IsEquivalence eqb
nat_equivalence = record {
  refl = λ x. eq-eqb x x refl;
  symm = λ x y. grind (arith, nat_tests);
  congr = λ x y z same. grind (arith, nat_tests);
}

module _ {X : Type 0} (p : X → Bool) where
  -- an item that passes
  record IsFound (xs : List X) : Type 0 where
    x : X
    at : Contains xs x
    passes : p x ≡ true

  any_found : (xs : List X) → list_any p xs ≡ true → IsFound xs
  any_found [] any = absurd cc
  any_found (y ∷ xs) any = elim (or_cases (p y) (list_any p xs) any) [
    | inl here ↦ record { x = y; at = (0, omega arith, refl); passes = here }
    | inr there ↦
        (let f = any_found xs there in
        record { x = f.x; at = (suc f.at.0, (let lt = f.at.1 in omega arith), f.at.2); passes = f.passes })
  ]

  any_given : (xs : List X) (x : X) (k : ℕ) → k < length xs → get_or xs k x ≡ x → p x ≡ true → list_any p xs ≡ true
  any_given [] x k within at passes = absurd (omega arith)
  any_given (y ∷ xs) x zero within at passes = or_left (p y) (list_any p xs) (ap p at ∙ passes)
  any_given (y ∷ xs) x (suc k) within at passes = or_right (p y) (list_any p xs) (any_given xs x k (omega arith) at passes)

-- distinct numbers that all stand in another list are no more than that has
pub fits_in : (xs ys : List ℕ) → AllPairs (λ a b. a ≢ b) xs → All (Contains ys) xs → length xs ≤ length ys
fits_in xs ys distinct all = length-le_from_is_member nat_equivalence xs ys (IsDistinct-from_AllPairs Decides-eqb xs distinct) member
  where
    member : (q : ℕ) → is_member eqb xs q ≡ true → is_member eqb ys q ≡ true
    member q is =
        let found = any_found (eqb q) xs is in
        let same : q ≡ found.x = (Decides-eqb q found.x).0 found.passes in
        let here = subst (Contains ys) found.at.2 (all found.at.0 found.x found.at.1) in
        any_given (eqb q) ys found.x here.0 here.1 here.2 found.passes

-- ---- the numbers of the items that pass a test

module _ {X : Type 0} (p : X → Bool) where
  -- the numbers of those that pass, where the first item has the number k
  abbrev pub numbers_where : ℕ → List X → List ℕ
  numbers_where k [] = []
  numbers_where k (x ∷ xs) =
      let later = numbers_where (k + 1) xs in
      cond (p x) (k ∷ later) later

  -- they are as many as there are items that pass
  pub length-numbers_where : (k : ℕ) (xs : List X) → length (numbers_where k xs) ≡ count_by p xs
  length-numbers_where k [] = refl
  length-numbers_where k (x ∷ xs) =
      let later = length-numbers_where (k + 1) xs in
      (elim (p x) as (λ b. length (cond b (k ∷ numbers_where (k + 1) xs) (numbers_where (k + 1) xs)) ≡ cond b 1 0 + count_by p xs) [
        | true ↦ omega arith
        | false ↦ omega arith
      ]) ∙ sym (sum_by-cons (λ y. cond (p y) 1 0) x xs)

  -- the number of an item that passes
  pub record IsNumberWhere (k : ℕ) (xs : List X) (n : ℕ) : Type 0 where
    pub least : k ≤ n
    pub most : n < k + length xs
    pub passes : (d : X) → p (get_or xs (n - k) d) ≡ true

  one_more : (k n : ℕ) (x : X) (xs : List X) → IsNumberWhere (k + 1) xs n → IsNumberWhere k (x ∷ xs) n
  one_more k n x xs is = record {
    least = omega (arith, is.least);
    most = omega (arith, is.most);
    passes = λ d. (let place : n - k ≡ suc (n - (k + 1)) = omega (arith, is.least) in rw place (is.passes d));
  }

  each_by : (k : ℕ) (x : X) (xs : List X) (b : Bool) → p x ≡ b
      → All (IsNumberWhere (k + 1) xs) (numbers_where (k + 1) xs)
      → All (IsNumberWhere k (x ∷ xs)) (cond b (k ∷ numbers_where (k + 1) xs) (numbers_where (k + 1) xs))
  each_by k x xs true is later =
      all_cons (IsNumberWhere k (x ∷ xs)) k (numbers_where (k + 1) xs)
      (record { least = omega arith; most = omega arith; passes = λ d. (let place : k - k ≡ 0 = omega arith in rw place is) })
      (λ i d within. one_more k (get_or (numbers_where (k + 1) xs) i d) x xs (later i d within))
  each_by k x xs false is later = λ i d within. one_more k (get_or (numbers_where (k + 1) xs) i d) x xs (later i d within)

  -- each of them is the number of an item that passes
  pub each_where : (k : ℕ) (xs : List X) → All (IsNumberWhere k xs) (numbers_where k xs)
  each_where k [] = λ i d within. absurd (omega arith)
  each_where k (x ∷ xs) = each_by k x xs (p x) refl (each_where (k + 1) xs)

  distinct_by : (k : ℕ) (x : X) (xs : List X) (b : Bool) → AllPairs (λ m n. m ≢ n) (numbers_where (k + 1) xs)
      → AllPairs (λ m n. m ≢ n) (cond b (k ∷ numbers_where (k + 1) xs) (numbers_where (k + 1) xs))
  distinct_by k x xs true later =
      AllPairs-cons (λ (m n : ℕ). m ≢ n) k (numbers_where (k + 1) xs) (λ i d within. (let is = each_where (k + 1) xs i d within in omega (arith, is.least))) later
  distinct_by k x xs false later = later

  -- no number stands twice
  pub distinct_where : (k : ℕ) (xs : List X) → AllPairs (λ m n. m ≢ n) (numbers_where k xs)
  distinct_where k [] = λ i j d order within. absurd (omega arith)
  distinct_where k (x ∷ xs) = distinct_by k x xs (p x) (distinct_where (k + 1) xs)

  behind_by : (k n : ℕ) (x : X) (xs : List X) (b : Bool) → Contains (numbers_where (k + 1) xs) n → Contains (cond b (k ∷ numbers_where (k + 1) xs) (numbers_where (k + 1) xs)) n
  behind_by k n x xs true has = (suc has.0, (let within = has.1 in omega arith), has.2)
  behind_by k n x xs false has = has

  first_by : (k : ℕ) (x : X) (xs : List X) (b : Bool) → p x ≡ b → p x ≡ true → Contains (cond b (k ∷ numbers_where (k + 1) xs) (numbers_where (k + 1) xs)) (k + 0)
  first_by k x xs true is passes = (0, omega arith, omega arith)
  first_by k x xs false is passes = absurd cc

  -- each item that passes has its number there
  pub has_where : (k : ℕ) (xs : List X) (b : ℕ) (d : X) → b < length xs → p (get_or xs b d) ≡ true → Contains (numbers_where k xs) (k + b)
  has_where k [] b d below passes = absurd (omega arith)
  has_where k (x ∷ xs) zero d below passes = first_by k x xs (p x) refl passes
  has_where k (x ∷ xs) (suc b) d below passes =
      let place : k + 1 + b ≡ k + suc b = omega arith in
      behind_by k (k + suc b) x xs (p x) (subst (Contains (numbers_where (k + 1) xs)) place (has_where (k + 1) xs b d (omega arith) passes))
