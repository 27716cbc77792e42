-- What holds or doesn't, as far as it can be found out: numbers, lists, and what is asked of each item of a list. So the first
-- item that fails is found, or all pass.
--     Known P              P holds, or it doesn't
--     known_all, known_some, known_below, known_some_below, known_item     of each of a list or of the numbers below one, or of some
--     least_failing        the least number that fails, where all behind some number pass
use Rattle.std.proofs.Common.{refl, ◌≡◌, ◌<◌, ◌≤◌, ◌-◌, ℕ, zero, suc, Bool, true, false, List, [], ◌∷◌, Option, Some, None, IsTrue, sym, subst, ◌∙◌, arith, inl, inr, All, ⊎_elim}
use Rattle.std.specs.Prelude.{ℤ, ◌≤ℤ◌, ◌⊎◌, ◌↔◌, Contains, bytes_eq, slice_get}
use Rattle.std.specs.Ordering.{int_eq}
use Rattle.std.proofs.lemmas.Bool.{cases_Bool, cases_eq, cases_lt, true≢false}
use Rattle.std.proofs.lemmas.Bool.Decides.{Decides-int_eq}
use Rattle.std.proofs.lemmas.Int.{by_lt_z, ints}
use Rattle.std.proofs.lemmas.List.Elements.{All-cons, All-head, All-nil, All-tail}
use Rattle.std.proofs.lemmas.Slice.Eq.{bytes_eq-Decides}
use Rattle.mk_text.specs.Items.{IsLeastFailing, OfItem}
use Rattle.mk_demands.specs.Numbers.{IsWithin}

abbrev pub Known : Type 0 → Type 0
Known P = P ⊎ (P → ⊥)

-- ---- joined

-- what is the same as something known
pub known_as : {P Q : Type 0} → Known P → (P → Q) → (Q → P) → Known Q
known_as (inl p) to back = inl (to p)
known_as (inr no_p) to back = inr (λ q. no_p (back q))

pub known_both : {P Q : Type 0} → Known P → Known Q → Known (P × Q)
known_both (inl p) (inl q) = inl (p, q)
known_both (inl p) (inr no_q) = inr (λ both. no_q both.1)
known_both (inr no_p) q = inr (λ both. no_p both.0)

pub known_either : {P Q : Type 0} → Known P → Known Q → Known (P ⊎ Q)
known_either (inl p) q = inl (inl p)
known_either (inr no_p) (inl q) = inl (inr q)
known_either (inr no_p) (inr no_q) = inr (λ either. ⊎_elim no_p no_q either)

pub known_not : {P : Type 0} → Known P → Known (P → ⊥)
known_not (inl p) = inr (λ no_p. no_p p)
known_not (inr no_p) = inl no_p

pub known_if : {P Q : Type 0} → Known P → Known Q → Known (P → Q)
known_if p (inl q) = inl (λ _. q)
known_if (inl p) (inr no_q) = inr (λ gives. no_q (gives p))
known_if (inr no_p) (inr no_q) = inl (λ p. absurd (no_p p))

pub known_iff : {P Q : Type 0} → Known P → Known Q → Known (P ↔ Q)
known_iff p q = known_both (known_if p q) (known_if q p)

-- ---- values

pub known_true : (b : Bool) → Known (IsTrue b)
known_true b = ⊎_elim (λ passes. inl passes) (λ fails. inr (λ passes. true≢false (sym passes ∙ fails))) (cases_Bool b)

pub known_equal : (m n : ℕ) → Known (m ≡ n)
known_equal m n = cases_eq m n

pub known_most : (m n : ℕ) → Known (m ≤ n)
known_most m n = ⊎_elim (λ above. inr (λ most. omega (arith, above, most))) (λ most. inl most) (cases_lt n m)

pub known_integers : (y z : ℤ) → Known (y ≡ z)
known_integers y z = by_test (cases_Bool (int_eq y z))
  where
    by_test : (int_eq y z ≡ true) ⊎ (int_eq y z ≡ false) → Known (y ≡ z)
    by_test (inl passes) = inl ((Decides-int_eq y z).0 passes)
    by_test (inr fails) = inr (λ same. true≢false (sym ((Decides-int_eq y z).1 same) ∙ fails))

pub known_bytes : (xs ys : List ℕ) → Known (xs ≡ ys)
known_bytes xs ys = by_test (cases_Bool (bytes_eq xs ys))
  where
    by_test : (bytes_eq xs ys ≡ true) ⊎ (bytes_eq xs ys ≡ false) → Known (xs ≡ ys)
    by_test (inl passes) = inl ((bytes_eq-Decides xs ys).0 passes)
    by_test (inr fails) = inr (λ same. true≢false (sym ((bytes_eq-Decides xs ys).1 same) ∙ fails))

known_least : (y z : ℤ) → Known (y ≤ℤ z)
known_least y z = by_lt_z z y (λ below. inr (λ least. omega (arith, ints, below, least))) (λ least. inl least)

pub known_within : (low high z : ℤ) → Known (IsWithin low high z)
known_within low high z = known_as (known_both (known_least low z) (known_least z high)) (λ both. record { least = both.0; most = both.1 }) (λ is. (is.least, is.most))

pub known_some_items : {X : Type 0} (xs : List X) → Known (xs ≡ [])
known_some_items [] = inl refl
known_some_items (x ∷ xs) = inr (λ same. absurd cc)

-- ---- lists

pub known_all : {X : Type 0} (P : X → Type 0) → ((x : X) → Known (P x)) → (xs : List X) → Known (All P xs)
known_all P each [] = inl (All-nil P)
known_all P each (x ∷ xs) = known_as (known_both (each x) (known_all P each xs)) (λ both. All-cons P x xs both.0 both.1) (λ all. (All-head P x xs all, All-tail P x xs all))

-- some element passes
abbrev pub SomeOf : {X : Type 0} → (X → Type 0) → List X → Type 0
SomeOf {X} P xs = (x : X) × Contains xs x × P x

some_later : {X : Type 0} (P : X → Type 0) (x : X) (xs : List X) → SomeOf P xs → SomeOf P (x ∷ xs)
some_later P x xs (y, (k, below, is), holds) = (y, (suc k, omega (arith, below), is), holds)

some_cases : {X : Type 0} (P : X → Type 0) (x : X) (xs : List X) → SomeOf P (x ∷ xs) → P x ⊎ SomeOf P xs
some_cases P x xs (y, (zero, below, is), holds) = inl (subst P (sym is) holds)
some_cases P x xs (y, (suc k, below, is), holds) = inr (y, (k, omega (arith, below), is), holds)

pub known_some : {X : Type 0} (P : X → Type 0) → ((x : X) → Known (P x)) → (xs : List X) → Known (SomeOf P xs)
known_some P each [] = inr (λ some. absurd (let below = some.1.1 in omega (arith, below)))
known_some P each (x ∷ xs) =
    known_as (known_either (each x) (known_some P each xs)) (λ either. ⊎_elim (λ here. (x, (0, omega arith, refl), here)) (λ later. some_later P x xs later) either) (some_cases P x xs)

-- an item by its number, where there is one
pub known_item : {X : Type 0} (P : X → Type 0) → ((x : X) → Known (P x)) → (xs : List X) (item : ℕ) → Known (OfItem P xs item)
known_item {X} P each xs item = by_item (known_most 1 item) (slice_get xs (item - 1)) refl
  where
    by_item : Known (1 ≤ item) → (found : Option X) → slice_get xs (item - 1) ≡ found → Known (OfItem P xs item)
    by_item (inr none) found is = inl (λ x least at. absurd (none least))
    by_item (inl least) None is = inl (λ x _ at. absurd (let same : None ≡ Some x = sym is ∙ at in cc))
    by_item (inl least) (Some y) is =
        known_as (each y) (λ holds x _ at. let same : y ≡ x = one_found (sym is ∙ at) in subst P same holds) (λ of. of y least is)
      where
        one_found : {x : X} → Some y ≡ Some x → y ≡ x
        one_found e = cc

-- ---- numbers

-- all numbers below one
below_more : (P : ℕ → Type 0) (n : ℕ) → ((k : ℕ) → k < n → P k) → P n → (k : ℕ) → k < suc n → P k
below_more P n before here k below = ⊎_elim (λ earlier. before k earlier) (λ last. let same : n ≡ k = omega (arith, last, below) in subst P same here) (cases_lt k n)

pub known_below : (P : ℕ → Type 0) → ((k : ℕ) → Known (P k)) → (n : ℕ) → Known ((k : ℕ) → k < n → P k)
known_below P each zero = inl (λ k below. absurd (omega (arith, below)))
known_below P each (suc n) =
    known_as (known_both (known_below P each n) (each n)) (λ both. below_more P n both.0 both.1) (λ all. (λ k below. all k (omega (arith, below)), all n (omega arith)))

-- some number below one
abbrev pub SomeBelow : (ℕ → Type 0) → ℕ → Type 0
SomeBelow P n = (k : ℕ) × (k < n) × P k

some_more : (P : ℕ → Type 0) (n : ℕ) → SomeBelow P n ⊎ P n → SomeBelow P (suc n)
some_more P n (inl (k, below, holds)) = (k, omega (arith, below), holds)
some_more P n (inr here) = (n, omega arith, here)

some_less : (P : ℕ → Type 0) (n : ℕ) → SomeBelow P (suc n) → SomeBelow P n ⊎ P n
some_less P n (k, below, holds) = ⊎_elim (λ earlier. inl (k, earlier, holds)) (λ last. let same : k ≡ n = omega (arith, last, below) in inr (subst P same holds)) (cases_lt k n)

pub known_some_below : (P : ℕ → Type 0) → ((k : ℕ) → Known (P k)) → (n : ℕ) → Known (SomeBelow P n)
known_some_below P each zero = inr (λ some. absurd (let below = some.1 in omega (arith, below)))
known_some_below P each (suc n) = known_as (known_either (known_some_below P each n) (each n)) (some_more P n) (some_less P n)

-- the least that fails, among those below a number
least_below : (P : ℕ → Type 0) → ((k : ℕ) → Known (P k)) → (n : ℕ) → ((k : ℕ) → k < n → P k) ⊎ ((k : ℕ) × IsLeastFailing P k)
least_below P each zero = inl (λ k below. absurd (omega (arith, below)))
least_below P each (suc n) = by_before (least_below P each n) (each n)
  where
    by_before : ((k : ℕ) → k < n → P k) ⊎ ((k : ℕ) × IsLeastFailing P k) → Known (P n) → ((k : ℕ) → k < suc n → P k) ⊎ ((k : ℕ) × IsLeastFailing P k)
    by_before (inr found) here = inr found
    by_before (inl before) (inl here) = inl (below_more P n before here)
    by_before (inl before) (inr fails) = inr (n, record { lower = before; fails = fails })

-- and among all, where those from a number on pass as soon as those below it do
pub least_failing : (P : ℕ → Type 0) → ((k : ℕ) → Known (P k)) → (n : ℕ) → (((j : ℕ) → j < n → P j) → (k : ℕ) → n ≤ k → P k) → ((k : ℕ) → P k) ⊎ ((k : ℕ) × IsLeastFailing P k)
least_failing P each n behind = ⊎_elim (λ before. inl (λ k. ⊎_elim (λ below. before k below) (λ past. behind before k past) (cases_lt k n))) (λ found. inr found) (least_below P each n)
