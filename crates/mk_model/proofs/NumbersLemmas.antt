-- Rising numbers: how many of a range they hold, and which stands at a place.
--     filter_rising       rising numbers are what a range has of them
--     count_rising        in a range from 0 on there are as many of them as are below its end
--     count_or, count_some     how many pass one of two tests, or one of many
--     nth_of_range        the number of a range behind so many that pass
--     count_point, rising_order     a partition point is a count
--     place_found         whether a number is among them shows behind those that are below it
use Rattle.std.proofs.Common.{◌≡◌, ℕ, zero, suc, ◌+◌, ◌-◌, ◌<◌, ◌≤◌, inl, inr, Bool, true, false, cond, ◌||◌, List, [], ◌∷◌, ◌++◌, length, get_or, refl, sym, ap, subst, ◌∙◌, arith, sum_by, All}
use Rattle.std.specs.Prelude.{◌==◌, nat_lt, AllPairs, Contains, count_by, filter}
use Rattle.std.specs.List.{list_any, range_with_len}
use Rattle.std.specs.List.Sorted.{IsNonDecreasingBy, IsPartitionPoint}
use Rattle.std.proofs.lemmas.Bool.{cases_eq, or_left, or_right}
use Rattle.std.proofs.lemmas.Bool.Decides.{nat_tests}
use Rattle.std.proofs.lemmas.List.{get_or-append-add}
use Rattle.std.proofs.lemmas.List.Elements.{filter-append}
use Rattle.std.proofs.lemmas.List.Sums.{length-filter, sum_by-append, sum_by-cons}

-- 1 where a test holds
abbrev pub one_if : Bool → ℕ
one_if b = cond b 1 0

-- the number is one of these
abbrev pub has : List ℕ → ℕ → Bool
has xs u = list_any (λ v. v == u) xs

-- a test or none
pub or_false : (b : Bool) → (b || false) ≡ b
or_false true = refl
or_false false = refl

-- ---- what is among some numbers

pub has_contains : (xs : List ℕ) (u : ℕ) → has xs u ≡ true → Contains xs u
has_contains [] u test = absurd cc
has_contains (x ∷ xs) u test = by_first (x == u) refl test (has_contains xs u)
  where
    by_first : (b : Bool) → (x == u) ≡ b → (b || has xs u) ≡ true → (has xs u ≡ true → Contains xs u) → Contains (x ∷ xs) u
    by_first true e test later = (0, omega arith, (let same : x ≡ u = grind (arith, nat_tests) in same))
    by_first false e test later = (let there = later test in (suc there.0, (let below = there.1 in omega arith), there.2))

pub contains_has : (xs : List ℕ) (u : ℕ) → Contains xs u → has xs u ≡ true
contains_has [] u (k, below, is) = absurd (omega (arith, below))
contains_has (x ∷ xs) u (zero, below, is) = (let same : x ≡ u = is in let test : (x == u) ≡ true = grind (arith, nat_tests) in or_left (x == u) (has xs u) test)
contains_has (x ∷ xs) u (suc k, below, is) = or_right (x == u) (has xs u) (contains_has xs u (k, omega (arith, below), is))

-- ---- rising numbers

-- the numbers rise, from a on and below b
abbrev pub RisesWithin : ℕ → ℕ → List ℕ → Type 0
RisesWithin a b [] = Unit {0}
RisesWithin a b (x ∷ xs) = (a ≤ x) × (x < b) × RisesWithin (x + 1) b xs

pub rises_within : (xs : List ℕ) (a b : ℕ) → AllPairs (λ v later. v < later) xs → All (λ v. (a ≤ v) × (v < b)) xs → RisesWithin a b xs
rises_within [] a b rise all = tt
rises_within (x ∷ xs) a b rise all = (
  (all 0 x (omega arith)).0,
  (all 0 x (omega arith)).1,
  rises_within xs (x + 1) b (λ i j d less below. rise (suc i) (suc j) d (omega (arith, less)) (omega (arith, below)))
      (λ k d below. ((let more = rise 0 (suc k) d (omega arith) (omega (arith, below)) in omega (arith, more)), (all (suc k) d (omega (arith, below))).1)),
)

-- a number below the first isn't among them
below_none : (xs : List ℕ) (a b u : ℕ) → RisesWithin a b xs → u < a → has xs u ≡ false
below_none [] a b u rises less = refl
below_none (x ∷ xs) a b u rises less =
    let differ : (x == u) ≡ false = (let least = rises.0 in grind (arith, nat_tests)) in
    rw differ (below_none xs (x + 1) b u rises.2 (omega (arith, rises.0, less)))

-- what a range has of none
filter_empty : (a n : ℕ) → filter (has []) (range_with_len a n) ≡ []
filter_empty a zero = refl
filter_empty a (suc n) = filter_empty (a + 1) n

-- tests that agree from a on
filter_within : (p q : ℕ → Bool) (a n : ℕ) → ((u : ℕ) → a ≤ u → p u ≡ q u) → filter p (range_with_len a n) ≡ filter q (range_with_len a n)
filter_within p q a zero same = refl
filter_within p q a (suc n) same =
    let here : p a ≡ q a = same a (omega arith) in
    let there : filter p (range_with_len (a + 1) n) ≡ filter q (range_with_len (a + 1) n) = filter_within p q (a + 1) n (λ u least. same u (omega (arith, least))) in
    rw (here, there) refl

-- rising numbers are what a range that reaches over them has of them
pub filter_rising : (xs : List ℕ) (a n b : ℕ) → a + n ≡ b → RisesWithin a b xs → filter (has xs) (range_with_len a n) ≡ xs
filter_rising [] a n b is rises = filter_empty a n
filter_rising (x ∷ xs) a zero b is rises = absurd (omega (arith, is, rises.0, rises.1))
filter_rising (x ∷ xs) a (suc n) b is rises = by_first (x == a) refl (λ ys later. filter_rising ys (a + 1) n b (omega (arith, is)) later)
  where
    by_first : (t : Bool) → (x == a) ≡ t → ((ys : List ℕ) → RisesWithin (a + 1) b ys → filter (has ys) (range_with_len (a + 1) n) ≡ ys) → filter (has (x ∷ xs)) (range_with_len a (suc n)) ≡ x ∷ xs
    by_first true e later =
        let same : x ≡ a = grind (arith, nat_tests) in
        let front : has (x ∷ xs) a ≡ true = rw e refl in
        let rest : filter (has (x ∷ xs)) (range_with_len (a + 1) n) ≡ filter (has xs) (range_with_len (a + 1) n) =
        filter_within (has (x ∷ xs)) (has xs) (a + 1) n (λ u least. (let differ : (x == u) ≡ false = grind (arith, nat_tests) in rw differ refl)) in
        let behind : RisesWithin (a + 1) b xs = subst (λ (y : ℕ). RisesWithin (y + 1) b xs) same rises.2 in
        rw (front, rest, later xs behind, same) refl
    by_first false e later =
        let above : a + 1 ≤ x = (let least = rises.0 in grind (arith, nat_tests)) in
        let front : has (x ∷ xs) a ≡ false = rw e (below_none xs (x + 1) b a rises.2 (omega (arith, above))) in
        rw front (later (x ∷ xs) (above, rises.1, rises.2))

-- ---- counts

pub count_none : {X : Type 0} (xs : List X) → count_by (λ u. false) xs ≡ 0
count_none [] = refl
count_none (x ∷ xs) = count_none xs

pub count_same : {X : Type 0} (p q : X → Bool) (xs : List X) → ((u : X) → p u ≡ q u) → count_by p xs ≡ count_by q xs
count_same p q [] same = refl
count_same p q (x ∷ xs) same =
    let here : one_if (p x) ≡ one_if (q x) = ap (λ b. one_if b) (same x) in
    omega (arith, sum_by-cons (λ u. one_if (p u)) x xs, sum_by-cons (λ u. one_if (q u)) x xs, count_same p q xs same, here)

-- one test holds wherever another does
pub count_le : {X : Type 0} (p q : X → Bool) (xs : List X) → ((u : X) → p u ≡ true → q u ≡ true) → count_by p xs ≤ count_by q xs
count_le p q [] implies = omega arith
count_le p q (x ∷ xs) implies =
    omega (arith, sum_by-cons (λ u. one_if (p u)) x xs, sum_by-cons (λ u. one_if (q u)) x xs, count_le p q xs implies, here (p x) (q x) (implies x))
  where
    here : (a b : Bool) → (a ≡ true → b ≡ true) → one_if a ≤ one_if b
    here true b implies = rw (implies refl) (omega arith)
    here false b implies = omega arith

-- of two tests one holds, and never both
pub count_or : {X : Type 0} (p q : X → Bool) (xs : List X) → ((u : X) → p u ≡ true → q u ≡ true → ⊥) → count_by (λ u. p u || q u) xs ≡ count_by p xs + count_by q xs
count_or p q [] never = refl
count_or p q (x ∷ xs) never =
    omega (
      arith,
      sum_by-cons (λ u. one_if (p u || q u)) x xs,
      sum_by-cons (λ u. one_if (p u)) x xs,
      sum_by-cons (λ u. one_if (q u)) x xs,
      count_or p q xs never,
      here (p x) (q x) (never x),
    )
  where
    here : (a b : Bool) → (a ≡ true → b ≡ true → ⊥) → one_if (a || b) ≡ one_if a + one_if b
    here true true never = absurd (never refl refl)
    here true false never = refl
    here false true never = refl
    here false false never = refl

-- or of two tests one holds
count_or_most : {X : Type 0} (p q : X → Bool) (xs : List X) → count_by (λ u. p u || q u) xs ≤ count_by p xs + count_by q xs
count_or_most p q [] = omega arith
count_or_most p q (x ∷ xs) =
    omega (
      arith,
      sum_by-cons (λ u. one_if (p u || q u)) x xs,
      sum_by-cons (λ u. one_if (p u)) x xs,
      sum_by-cons (λ u. one_if (q u)) x xs,
      count_or_most p q xs,
      here (p x) (q x),
    )
  where
    here : (a b : Bool) → one_if (a || b) ≤ one_if a + one_if b
    here true b = omega arith
    here false b = omega arith

-- a number isn't in a range that begins above it
count_past : (x a n : ℕ) → x < a → count_by (λ u. x == u) (range_with_len a n) ≡ 0
count_past x a zero less = refl
count_past x a (suc n) less =
    let differ : (x == a) ≡ false = grind (arith, nat_tests) in
    let here : one_if (x == a) ≡ 0 = rw differ refl in
    omega (arith, sum_by-cons (λ u. one_if (x == u)) a (range_with_len (a + 1) n), here, count_past x (a + 1) n (omega (arith, less)))

-- and in one that doesn't it is where it is below the end
count_one : (x a n b : ℕ) → a ≤ x → a + n ≡ b → count_by (λ u. x == u) (range_with_len a n) ≡ one_if (nat_lt x b)
count_one x a zero b least is = (let test : nat_lt x b ≡ false = grind (arith, nat_tests) in rw test refl)
count_one x a (suc n) b least is = by_first (x == a) refl (λ above. count_one x (a + 1) n b above (omega (arith, is)))
  where
    by_first : (t : Bool) → (x == a) ≡ t → (a + 1 ≤ x → count_by (λ u. x == u) (range_with_len (a + 1) n) ≡ one_if (nat_lt x b))
        → count_by (λ u. x == u) (range_with_len a (suc n)) ≡ one_if (nat_lt x b)
    by_first true e later =
        let same : x ≡ a = grind (arith, nat_tests) in
        let test : nat_lt x b ≡ true = grind (arith, nat_tests) in
        let here : one_if (x == a) ≡ 1 = rw e refl in
        let whole : one_if (nat_lt x b) ≡ 1 = rw test refl in
        omega (arith, sum_by-cons (λ u. one_if (x == u)) a (range_with_len (a + 1) n), here, whole, count_past x (a + 1) n (omega (arith, same)))
    by_first false e later =
        let above : a + 1 ≤ x = grind (arith, nat_tests) in
        let here : one_if (x == a) ≡ 0 = rw e refl in
        omega (arith, sum_by-cons (λ u. one_if (x == u)) a (range_with_len (a + 1) n), here, later above)

-- in a range from 0 on there are as many of some rising numbers as are below its end
pub count_rising : (xs : List ℕ) (a b n : ℕ) → RisesWithin a b xs → count_by (has xs) (range_with_len 0 n) ≡ count_by (λ v. nat_lt v n) xs
count_rising [] a b n rises = count_none (range_with_len 0 n)
count_rising (x ∷ xs) a b n rises =
    omega (
      arith,
      count_or (λ u. x == u) (has xs) (range_with_len 0 n) never,
      count_one x 0 n n (omega arith) (omega arith),
      sum_by-cons (λ v. one_if (nat_lt v n)) x xs,
      count_rising xs (x + 1) b n rises.2,
    )
  where
    never : (u : ℕ) → (x == u) ≡ true → has xs u ≡ true → ⊥
    never u same there =
        let is : x ≡ u = grind (arith, nat_tests) in
        let none : has xs u ≡ false = below_none xs (x + 1) b u rises.2 (omega (arith, is)) in
        absurd cc

-- where all are below it, all of them
pub count_all : (xs : List ℕ) (a b : ℕ) → RisesWithin a b xs → count_by (λ v. nat_lt v b) xs ≡ length xs
count_all [] a b rises = refl
count_all (x ∷ xs) a b rises =
    let test : nat_lt x b ≡ true = (let less = rises.1 in grind (arith, nat_tests)) in
    let here : one_if (nat_lt x b) ≡ 1 = rw test refl in
    omega (arith, sum_by-cons (λ v. one_if (nat_lt v b)) x xs, here, count_all xs (x + 1) b rises.2)

-- no range has more of some numbers than they are
has_most : (xs : List ℕ) (n : ℕ) → count_by (has xs) (range_with_len 0 n) ≤ length xs
has_most [] n = omega (arith, count_none (range_with_len 0 n))
has_most (x ∷ xs) n =
    omega (arith, count_or_most (λ u. x == u) (has xs) (range_with_len 0 n), count_one x 0 n n (omega arith) (omega arith), one (nat_lt x n), has_most xs n)
  where
    one : (b : Bool) → one_if b ≤ 1
    one true = omega arith
    one false = omega arith

-- nor more of several lists than are in all of them
pub count_some : {X : Type 0} (list : X → List ℕ) (xs : List X) (n : ℕ) → count_by (λ u. list_any (λ x. has (list x) u) xs) (range_with_len 0 n) ≤ sum_by (λ x. length (list x)) xs
count_some list [] n = omega (arith, count_none (range_with_len 0 n))
count_some list (x ∷ xs) n =
    omega (
      arith,
      count_or_most (has (list x)) (λ u. list_any (λ y. has (list y) u) xs) (range_with_len 0 n),
      has_most (list x) n,
      sum_by-cons (λ y. length (list y)) x xs,
      count_some list xs n,
    )

-- ---- a range and its parts

range_split : (a n m : ℕ) → range_with_len a (n + m) ≡ range_with_len a n ++ range_with_len (a + n) m
range_split a zero m = (let start : a + 0 ≡ a = omega arith in let count : 0 + m ≡ m = omega arith in rw (start, count) refl)
range_split a (suc n) m =
    let count : suc n + m ≡ suc (n + m) = omega arith in
    let start : a + suc n ≡ a + 1 + n = omega arith in
    rw (count, start) (ap (λ (xs : List ℕ). a ∷ xs) (range_split (a + 1) n m))

-- one number more
pub count_next : (p : ℕ → Bool) (u : ℕ) → count_by p (range_with_len 0 (u + 1)) ≡ count_by p (range_with_len 0 u) + one_if (p u)
count_next p u =
    let split = range_split 0 u 1 in
    let start : 0 + u ≡ u = omega arith in
    let whole : count_by p (range_with_len 0 (u + 1)) ≡ count_by p (range_with_len 0 u ++ u ∷ []) = ap (count_by p) (rw start at split) in
    let here : count_by p (u ∷ []) ≡ one_if (p u) = omega (arith, sum_by-cons (λ v. one_if (p v)) u []) in
    whole ∙ omega (arith, sum_by-append (λ v. one_if (p v)) (range_with_len 0 u) (u ∷ []), here)

-- what passes, behind as many as pass before it
pub nth_of_range : (p : ℕ → Bool) (n u : ℕ) → u < n → p u ≡ true → get_or (filter p (range_with_len 0 n)) (count_by p (range_with_len 0 u)) 0 ≡ u
nth_of_range p n u less passes =
    let count : u + suc (n - (u + 1)) ≡ n = omega (arith, less) in
    let start : 0 + u ≡ u = omega arith in
    let split : range_with_len 0 n ≡ range_with_len 0 u ++ (u ∷ range_with_len (u + 1) (n - (u + 1))) = rw (count, start) at (range_split 0 u (suc (n - (u + 1)))) in
    let behind : filter p (u ∷ range_with_len (u + 1) (n - (u + 1))) ≡ u ∷ filter p (range_with_len (u + 1) (n - (u + 1))) = rw passes refl in
    let parts : filter p (range_with_len 0 n) ≡ filter p (range_with_len 0 u) ++ (u ∷ filter p (range_with_len (u + 1) (n - (u + 1)))) =
    ap (filter p) split ∙ filter-append p (range_with_len 0 u) (u ∷ range_with_len (u + 1) (n - (u + 1)))
    ∙ ap (λ (ys : List ℕ). filter p (range_with_len 0 u) ++ ys) behind in
    let place : count_by p (range_with_len 0 u) ≡ length (filter p (range_with_len 0 u)) + 0 = omega (arith, length-filter p (range_with_len 0 u)) in
    rw (parts, place) (get_or-append-add (filter p (range_with_len 0 u)) (u ∷ filter p (range_with_len (u + 1) (n - (u + 1)))) 0 0)

-- ---- partition points

-- where those in front of a place pass and those behind it don't, the place is how many pass
pub count_point : (p : ℕ → Bool) (xs : List ℕ) (i : ℕ) → i ≤ length xs → IsPartitionPoint (λ y. p y ≡ true) (λ y. p y ≡ false) xs i → i ≡ count_by p xs
count_point p [] i within point = omega (arith, within)
count_point p (x ∷ xs) zero within point =
    let fails : p x ≡ false = point.1 0 x (omega arith) (omega arith) in
    let here : one_if (p x) ≡ 0 = rw fails refl in
    let rest = count_point p xs zero (omega arith) ((λ k d least less. absurd (omega (arith, less))), (λ k d least less. point.1 (suc k) d (omega arith) (omega (arith, less)))) in
    omega (arith, sum_by-cons (λ y. one_if (p y)) x xs, here, rest)
count_point p (x ∷ xs) (suc i) within point =
    let passes : p x ≡ true = point.0 0 x (omega arith) (omega arith) in
    let here : one_if (p x) ≡ 1 = rw passes refl in
    let rest = count_point p xs i (omega (arith, within))
    ((λ k d least less. point.0 (suc k) d (omega arith) (omega (arith, less))), (λ k d least less. point.1 (suc k) d (omega (arith, least)) (omega (arith, less)))) in
    omega (arith, sum_by-cons (λ y. one_if (p y)) x xs, here, rest)

-- rising numbers don't fall
pub rising_order : (xs : List ℕ) → AllPairs (λ v later. v < later) xs → IsNonDecreasingBy (λ (v : ℕ). v) xs
rising_order xs rise i j d le less =
    elim (cases_eq i j) [
      | inl same ↦ rw same (omega arith)
      | inr other ↦ (let more : get_or xs i d < get_or xs j d = rise i j d (omega (arith, le, other)) less in omega (arith, more))
    ]

-- ---- a number at its place

-- none of some rising numbers is below one that isn't above the first
none_below : (xs : List ℕ) (a b u : ℕ) → RisesWithin a b xs → u ≤ a → count_by (λ v. nat_lt v u) xs ≡ 0
none_below [] a b u rises le = refl
none_below (x ∷ xs) a b u rises le =
    let test : nat_lt x u ≡ false = (let least = rises.0 in grind (arith, nat_tests)) in
    let here : one_if (nat_lt x u) ≡ 0 = rw test refl in
    omega (arith, sum_by-cons (λ v. one_if (nat_lt v u)) x xs, here, none_below xs (x + 1) b u rises.2 (omega (arith, rises.0, le)))

-- what stands behind those that are below a number tells whether it is among them
pub record IsPlaceOf (xs : List ℕ) (u i : ℕ) : Type 0 where
  pub there : i < length xs → (get_or xs i 0 == u) ≡ has xs u
  pub past : length xs ≤ i → has xs u ≡ false

pub place_found : (xs : List ℕ) (a b u : ℕ) → RisesWithin a b xs → IsPlaceOf xs u (count_by (λ v. nat_lt v u) xs)
place_found [] a b u rises = record { there = λ less. absurd (omega (arith, less)); past = λ le. refl }
place_found (x ∷ xs) a b u rises = by_first (nat_lt x u) refl (place_found xs (x + 1) b u rises.2)
  where
    by_first : (t : Bool) → nat_lt x u ≡ t → IsPlaceOf xs u (count_by (λ v. nat_lt v u) xs) → IsPlaceOf (x ∷ xs) u (count_by (λ v. nat_lt v u) (x ∷ xs))
    by_first true e later =
        let differ : (x == u) ≡ false = grind (arith, nat_tests) in
        let here : one_if (nat_lt x u) ≡ 1 = rw e refl in
        let count : count_by (λ v. nat_lt v u) (x ∷ xs) ≡ suc (count_by (λ v. nat_lt v u) xs) = omega (arith, sum_by-cons (λ v. one_if (nat_lt v u)) x xs, here) in
        let whole : has (x ∷ xs) u ≡ has xs u = rw differ refl in
        record {
          there = λ less. subst (λ (n : ℕ). (get_or (x ∷ xs) n 0 == u) ≡ has (x ∷ xs) u) (sym count) (later.there (omega (arith, less, count)) ∙ sym whole);
          past = λ le. whole ∙ later.past (omega (arith, le, count));
        }
    by_first false e later =
        let least : u ≤ x = grind (arith, nat_tests) in
        let none : has xs u ≡ false = below_none xs (x + 1) b u rises.2 (omega (arith, least)) in
        let here : one_if (nat_lt x u) ≡ 0 = rw e refl in
        let count : count_by (λ v. nat_lt v u) (x ∷ xs) ≡ 0 =
        omega (arith, sum_by-cons (λ v. one_if (nat_lt v u)) x xs, here, none_below xs (x + 1) b u rises.2 (omega (arith, least))) in
        record {
          there = λ less. subst (λ (n : ℕ). (get_or (x ∷ xs) n 0 == u) ≡ has (x ∷ xs) u) (sym count) (rw none (sym (or_false (x == u))));
          past = λ le. absurd (omega (arith, le, count));
        }
