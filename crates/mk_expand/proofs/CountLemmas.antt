-- Counts and sums.
--     count_append, count_flat, count_mapped     counts over lists that are made of others
--     sums_below, sums_meet                      sums by their items
--     count_same, count_some, count_once         counts by their items
--     total                                      a sum over places
--     totals_below, totals_one, total_once, total_some      sums over places by their items
--     exchanged                                  a sum of sums, taken the other way round
use Rattle.std.proofs.Common.{◌≡◌, ◌≢◌, ◌∙◌, ℕ, zero, suc, ◌+◌, ◌<◌, ◌≤◌, Bool, true, false, cond, List, [], ◌∷◌, ◌++◌, length, get_or, map, refl, ap, arith, Contains, sum_by}
use Rattle.std.specs.Prelude.{count_by}
use Rattle.std.specs.List.{flat_map}
use Rattle.std.proofs.lemmas.List.Sums.{sum_by-append, sum_by-cons}

-- 1 where it is so
abbrev pub one_if : Bool → ℕ
one_if b = cond b 1 0

-- ---- counts over lists that are made of others

pub count_cons : {X : Type 0} (p : X → Bool) (x : X) (xs : List X) → count_by p (x ∷ xs) ≡ one_if (p x) + count_by p xs
count_cons p x xs = sum_by-cons (λ y. cond (p y) 1 0) x xs

pub count_append : {X : Type 0} (p : X → Bool) (xs ys : List X) → count_by p (xs ++ ys) ≡ count_by p xs + count_by p ys
count_append p xs ys = sum_by-append (λ y. cond (p y) 1 0) xs ys

pub count_flat : {X A : Type 0} (p : A → Bool) (f : X → List A) (xs : List X) → count_by p (flat_map f xs) ≡ sum_by (λ x. count_by p (f x)) xs
count_flat p f [] = refl
count_flat p f (x ∷ xs) =
    let rest = count_flat p f xs in
    omega (arith, count_append p (f x) (flat_map f xs), rest, sum_by-cons (λ y. count_by p (f y)) x xs)

pub count_mapped : {X Y : Type 0} (p : Y → Bool) (f : X → Y) (xs : List X) → count_by p (map f xs) ≡ count_by (λ x. p (f x)) xs
count_mapped p f [] = refl
count_mapped p f (x ∷ xs) = omega (arith, count_mapped p f xs, count_cons p (f x) (map f xs), count_cons (λ y. p (f y)) x xs)

-- ---- by their items

pub sums_meet : {X : Type 0} (f h g k : X → ℕ) (xs : List X) → ((x : X) → Contains xs x → f x + h x ≤ g x + k x) → sum_by f xs + sum_by h xs ≤ sum_by g xs + sum_by k xs
sums_meet f h g k [] each = omega arith
sums_meet f h g k (x ∷ xs) each =
    let rest = sums_meet f h g k xs (λ y at. each y (suc at.0, (let below = at.1 in omega arith), at.2)) in
    let here = each x (0, omega arith, refl) in
    omega (arith, rest, here, sum_by-cons f x xs, sum_by-cons h x xs, sum_by-cons g x xs, sum_by-cons k x xs)

pub sums_below : {X : Type 0} (f g : X → ℕ) (xs : List X) → ((x : X) → Contains xs x → f x ≤ g x) → sum_by f xs ≤ sum_by g xs
sums_below f g [] each = omega arith
sums_below f g (x ∷ xs) each =
    let rest = sums_below f g xs (λ y at. each y (suc at.0, (let below = at.1 in omega arith), at.2)) in
    let here = each x (0, omega arith, refl) in
    omega (arith, rest, here, sum_by-cons f x xs, sum_by-cons g x xs)

pub count_same : {X : Type 0} (p q : X → Bool) (xs : List X) → ((x : X) → Contains xs x → p x ≡ q x) → count_by p xs ≡ count_by q xs
count_same p q [] each = refl
count_same p q (x ∷ xs) each =
    let rest = count_same p q xs (λ y at. each y (suc at.0, (let below = at.1 in omega arith), at.2)) in
    let here : one_if (p x) ≡ one_if (q x) = ap one_if (each x (0, omega arith, refl)) in
    omega (arith, rest, here, count_cons p x xs, count_cons q x xs)

pub count_none : {X : Type 0} (p : X → Bool) (xs : List X) → ((x : X) → Contains xs x → p x ≡ false) → count_by p xs ≡ 0
count_none p [] each = refl
count_none p (x ∷ xs) each =
    let rest = count_none p xs (λ y at. each y (suc at.0, (let below = at.1 in omega arith), at.2)) in
    let here : one_if (p x) ≡ 0 = ap one_if (each x (0, omega arith, refl)) in
    omega (arith, rest, here, count_cons p x xs)

pub count_some : {X : Type 0} (p : X → Bool) (xs : List X) (x : X) → Contains xs x → p x ≡ true → 1 ≤ count_by p xs
count_some p [] x (k, below, is) passes = absurd (omega (arith, below))
count_some p (y ∷ xs) x (zero, below, is) passes =
    let here : one_if (p y) ≡ 1 = ap one_if (ap p is ∙ passes) in
    omega (arith, here, count_cons p y xs)
count_some p (y ∷ xs) x (suc k, below, is) passes = omega (arith, count_some p xs x (k, omega (arith, below), is) passes, count_cons p y xs)

-- where no two items pass
pub count_once : {X : Type 0} (p : X → Bool) (xs : List X) → ((i j : ℕ) (d : X) → i < j → j < length xs → p (get_or xs i d) ≡ true → p (get_or xs j d) ≡ true → ⊥) → count_by p xs ≤ 1
count_once p [] never = omega arith
count_once {X} p (x ∷ xs) never = by (p x) refl (count_once p xs (λ i j d less below. never (suc i) (suc j) d (omega arith) (omega arith)))
  where
    none_behind : p x ≡ true → (y : X) → Contains xs y → p y ≡ false
    none_behind first y (k, below, is) = test (p y) refl
      where
        test : (b : Bool) → p y ≡ b → p y ≡ false
        test true e = absurd (never 0 (suc k) y (omega arith) (omega arith) first (ap p is ∙ e))
        test false e = e

    by : (b : Bool) → p x ≡ b → count_by p xs ≤ 1 → count_by p (x ∷ xs) ≤ 1
    by true e rest = (let none = count_none p xs (none_behind e) in let one : one_if (p x) ≡ 1 = ap one_if e in omega (arith, none, one, count_cons p x xs))
    by false e rest = (let zero_here : one_if (p x) ≡ 0 = ap one_if e in omega (arith, rest, zero_here, count_cons p x xs))

-- ---- sums over places

-- f 0 and so on, so many in all
abbrev pub total : (ℕ → ℕ) → ℕ → ℕ
total f zero = 0
total f (suc m) = f 0 + total (λ k. f (suc k)) m

pub totals_below : (f g : ℕ → ℕ) (m : ℕ) → ((k : ℕ) → k < m → f k ≤ g k) → total f m ≤ total g m
totals_below f g zero each = omega arith
totals_below f g (suc m) each = omega (arith, each 0 (omega arith), totals_below (λ k. f (suc k)) (λ k. g (suc k)) m (λ k below. each (suc k) (omega arith)))

-- where one item gives more, and no other less
pub totals_one : (f g : ℕ → ℕ) (m at b c : ℕ) → at < m → f at + b ≤ g at + c → ((k : ℕ) → k < m → k ≢ at → f k ≤ g k) → total f m + b ≤ total g m + c
totals_one f g zero at b c below here each = absurd (omega arith)
totals_one f g (suc m) zero b c below here each =
    omega (arith, here, totals_below (λ k. f (suc k)) (λ k. g (suc k)) m (λ k less. each (suc k) (omega arith) (λ same. omega (arith, same))))
totals_one f g (suc m) (suc at) b c below here each =
    let rest = totals_one (λ k. f (suc k)) (λ k. g (suc k)) m at b c (omega arith) here (λ k less other. each (suc k) (omega arith) (λ same. other (omega (arith, same)))) in
    omega (arith, rest, each 0 (omega arith) (λ same. omega (arith, same)))

-- no item is more than all
pub total_some : (f : ℕ → ℕ) (m k : ℕ) → k < m → f k ≤ total f m
total_some f zero k below = absurd (omega arith)
total_some f (suc m) zero below = omega arith
total_some f (suc m) (suc k) below = omega (arith, total_some (λ i. f (suc i)) m k (omega arith))

total_none : (f : ℕ → ℕ) (m : ℕ) → ((k : ℕ) → k < m → f k ≡ 0) → total f m ≡ 0
total_none f zero each = refl
total_none f (suc m) each = omega (arith, each 0 (omega arith), total_none (λ k. f (suc k)) m (λ k below. each (suc k) (omega arith)))

-- where one item at most is 1, and all others 0
pub total_once : (p : ℕ → Bool) (m : ℕ) → ((i k : ℕ) → i < k → k < m → p i ≡ true → p k ≡ true → ⊥) → total (λ k. one_if (p k)) m ≤ 1
total_once p zero once = omega arith
total_once p (suc m) once = by (p 0) refl (total_once (λ k. p (suc k)) m (λ i k less below. once (suc i) (suc k) (omega arith) (omega arith)))
  where
    by : (b : Bool) → p 0 ≡ b → total (λ k. one_if (p (suc k))) m ≤ 1 → one_if b + total (λ k. one_if (p (suc k))) m ≤ 1
    by true e rest =
        let none = total_none (λ k. one_if (p (suc k))) m (λ k below. no (suc k) (p (suc k)) refl (omega arith) (omega arith) e) in
        omega (arith, none)
      where
        no : (k : ℕ) (b : Bool) → p k ≡ b → 0 < k → k < suc m → p 0 ≡ true → one_if (p k) ≡ 0
        no k true is some below first = absurd (once 0 k some below first is)
        no k false is some below first = ap one_if is
    by false e rest = omega (arith, rest)

-- a sum over places of sums over a list, taken the other way round
pub exchanged : {X : Type 0} (M : ℕ → X → ℕ) (m : ℕ) (xs : List X) → total (λ k. sum_by (M k) xs) m ≡ sum_by (λ x. total (λ k. M k x) m) xs
exchanged M zero [] = refl
exchanged M zero (x ∷ xs) = omega (arith, exchanged M zero xs, sum_by-cons (λ y. 0) x xs)
exchanged M (suc m) xs = omega (arith, exchanged (λ k. M (suc k)) m xs, both (M 0) (λ x. total (λ k. M (suc k) x) m) xs)
  where
    both : {X : Type 0} (f g : X → ℕ) (ys : List X) → sum_by (λ y. f y + g y) ys ≡ sum_by f ys + sum_by g ys
    both f g [] = refl
    both f g (y ∷ ys) = omega (arith, both f g ys, sum_by-cons (λ z. f z + g z) y ys, sum_by-cons f y ys, sum_by-cons g y ys)
