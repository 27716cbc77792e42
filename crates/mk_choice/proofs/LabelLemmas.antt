-- Labels, one after another.
--     borne_next      one label more
--     borne_few       a group is among the labels once at most
--     greatest_next   the greatest of one label more
--     slice_get-set, number_more, number_less     a list with another item at a place
--     opened_none, opened_some        the slots that a number opens
use Rattle.std.proofs.Common.{◌≡◌, ℕ, zero, suc, ◌≢◌, ◌+◌, ◌-◌, ◌<◌, ◌≤◌, ◌||◌, Bool, true, false, cond, List, [], ◌∷◌, length, get_or, max, set, take, Some, refl, sym, ap, arith}
use Rattle.std.specs.Prelude.{◌==◌, AllPairs, slice_get, slice_index}
use Rattle.std.specs.List.{list_any}
use Rattle.std.proofs.lemmas.Bool.Decides.{nat_tests}
use Rattle.std.proofs.lemmas.Grind.{get_or-set_at}
use Rattle.std.proofs.lemmas.List.{get_or-set_other}
use Rattle.mk_model.specs.declared.template.Slot.{Slot}
use Rattle.mk_model.specs.declared.template.Slot.TheVariants.{Link, Site}
use Rattle.mk_model.specs.Labels.{is_filled_by, member, members_at}
use Rattle.mk_model.specs.OpenSlots.{opened}
use Rattle.mk_model.specs.Queries.{QueryView, slots_of}
use Rattle.mk_model.specs.Sizes.{greatest}
use Rattle.mk_choice.specs.Search.{borne}

-- a group is among the labels once at most
pub borne_few : (labels : List ℕ) (g : ℕ) → borne labels g ≤ 1
borne_few labels g = by_test (list_any (λ h. h == g) labels)
  where
    by_test : (b : Bool) → cond b 1 0 ≤ 1
    by_test true = omega arith
    by_test false = omega arith

-- one label more of rising ones: it is none of those before it
pub borne_next : (labels : List ℕ) (i d g : ℕ) → AllPairs (λ h later. h < later) labels → i < length labels
    → ◌≡◌ {A = ℕ} (borne (take (i + 1) labels) g) (borne (take i labels) g + cond (get_or labels i d == g) 1 0)
borne_next [] i d g rise below = absurd (omega (arith, below))
borne_next (h ∷ labels) zero d g rise below = by_test (h == g)
  where
    by_test : (b : Bool) → ◌≡◌ {A = ℕ} (cond (b || false) 1 0) (0 + cond b 1 0)
    by_test true = refl
    by_test false = refl
borne_next (h ∷ labels) (suc i) d g rise below =
    let next : suc i + 1 ≡ suc (i + 1) = omega arith in
    rw next (by_test (h == g) refl (borne_next labels i d g behind less))
  where
    less : i < length labels
    less = omega (arith, below)

    later : h < get_or labels i d
    later = rise 0 (suc i) d (omega arith) below

    behind : AllPairs (λ h later. h < later) labels
    behind j k e before within = rise (suc j) (suc k) e (omega (arith, before)) (omega (arith, within))

    by_test : (b : Bool) → (h == g) ≡ b → ◌≡◌ {A = ℕ} (borne (take (i + 1) labels) g) (borne (take i labels) g + cond (get_or labels i d == g) 1 0)
        → ◌≡◌ {A = ℕ} (cond (b || list_any (λ h. h == g) (take (i + 1) labels)) 1 0) (cond (b || list_any (λ h. h == g) (take i labels)) 1 0 + cond (get_or labels i d == g) 1 0)
    by_test true e same = (let other : (get_or labels i d == g) ≡ false = grind (arith, nat_tests, e, later) in rw other refl)
    by_test false e same = same

-- the greatest of one label more
pub greatest_next : (f : ℕ → ℕ) (labels : List ℕ) (i d : ℕ) → i < length labels → greatest f (take (i + 1) labels) ≡ max (greatest f (take i labels)) (f (get_or labels i d))
greatest_next f [] i d below = absurd (omega (arith, below))
greatest_next f (h ∷ labels) zero d below = omega arith
greatest_next f (h ∷ labels) (suc i) d below =
    let next : suc i + 1 ≡ suc (i + 1) = omega arith in
    let behind = greatest_next f labels i d (omega (arith, below)) in
    let all : greatest f (take (suc i + 1) (h ∷ labels)) ≡ max (f h) (greatest f (take (i + 1) labels)) = rw next refl in
    omega (arith, all, behind)

-- ---- one more, and one less, at a place

-- the number of a group, and its place
pub same_label : (h i : ℕ) → 1 ≤ h → ◌≡◌ {A = ℕ} (cond (h == i + 1) 1 0) (cond (h - 1 == i) 1 0)
same_label h i least = by_test (h == i + 1) refl
  where
    by_test : (b : Bool) → (h == i + 1) ≡ b → ◌≡◌ {A = ℕ} (cond b 1 0) (cond (h - 1 == i) 1 0)
    by_test true e = (let test : (h - 1 == i) ≡ true = grind (arith, nat_tests) in rw test refl)
    by_test false e = (let test : (h - 1 == i) ≡ false = grind (arith, nat_tests) in rw test refl)

-- an item of a list with another in its place
pub slice_get-set : {X : Type 0} (xs : List X) (i j : ℕ) (x : X) → i < length xs → slice_get (set xs i x) j ≡ cond (i == j) (Some x) (slice_get xs j)
slice_get-set [] i j x below = absurd (omega (arith, below))
slice_get-set (y ∷ xs) zero zero x below = refl
slice_get-set (y ∷ xs) zero (suc j) x below = (let test : (zero == suc j) ≡ false = grind (arith, nat_tests) in rw test refl)
slice_get-set (y ∷ xs) (suc i) zero x below = (let test : (suc i == zero) ≡ false = grind (arith, nat_tests) in rw test refl)
slice_get-set (y ∷ xs) (suc i) (suc j) x below = by_test (i == j) refl (slice_get-set xs i j x (omega (arith, below)))
  where
    by_test : (b : Bool) → (i == j) ≡ b → slice_get (set xs i x) j ≡ cond (i == j) (Some x) (slice_get xs j) → slice_get (set xs i x) j ≡ cond (suc i == suc j) (Some x) (slice_get xs j)
    by_test true e is = (let test : (suc i == suc j) ≡ true = grind (arith, nat_tests) in rw test (rw e at is))
    by_test false e is = (let test : (suc i == suc j) ≡ false = grind (arith, nat_tests) in rw test (rw e at is))

-- one more at a place of a list of numbers
pub number_more : (xs : List ℕ) (i n j : ℕ) → i < length xs → (i ≡ j → n ≡ slice_index xs i + 1) → ◌≡◌ {A = ℕ} (slice_index (set xs i n) j) (slice_index xs j + cond (i == j) 1 0)
number_more xs i n j below is = by_test (i == j) refl
  where
    by_test : (b : Bool) → (i == j) ≡ b → ◌≡◌ {A = ℕ} (slice_index (set xs i n) j) (slice_index xs j + cond b 1 0)
    by_test true e = (let same : j ≡ i = grind (arith, nat_tests) in omega (arith, get_or-set_at xs i j n 0 same below, ap (slice_index xs) same, is (sym same)))
    by_test false e = (let other : j ≢ i = λ same. (let test : (i == j) ≡ true = grind (arith, nat_tests) in absurd cc) in omega (arith, get_or-set_other xs i j n 0 other))

-- and one less
pub number_less : (xs : List ℕ) (i n j : ℕ) → i < length xs → (i ≡ j → n ≡ slice_index xs i - 1) → ◌≡◌ {A = ℕ} (slice_index (set xs i n) j) (slice_index xs j - cond (i == j) 1 0)
number_less xs i n j below is = by_test (i == j) refl
  where
    by_test : (b : Bool) → (i == j) ≡ b → ◌≡◌ {A = ℕ} (slice_index (set xs i n) j) (slice_index xs j - cond b 1 0)
    by_test true e = (let same : j ≡ i = grind (arith, nat_tests) in omega (arith, get_or-set_at xs i j n 0 same below, ap (slice_index xs) same, is (sym same)))
    by_test false e = (let other : j ≢ i = λ same. (let test : (i == j) ≡ true = grind (arith, nat_tests) in absurd cc) in omega (arith, get_or-set_other xs i j n 0 other))

-- ---- the slots that a number opens

-- a number behind those of the members opens none
pub opened_none : (query : QueryView) (slot : Slot) (k : ℕ) → length (members_at query slot) < k → opened query slot k ≡ []
opened_none query (Link atom most from to) k past = refl
opened_none query (Site atom groups first second) k past =
    let fails : is_filled_by query (Site atom groups first second) k ≡ false = grind (arith, nat_tests) in
    rw fails refl

-- the number of a member opens the slots of that member
pub opened_some : (query : QueryView) (slot : Slot) (k : ℕ) → 1 ≤ k → k ≤ length (members_at query slot) → opened query slot k ≡ slots_of query (member query slot k)
opened_some query (Link atom most from to) k least within = absurd (omega (arith, least, within))
opened_some query (Site atom groups first second) k least within =
    let fills : is_filled_by query (Site atom groups first second) k ≡ true = grind (arith, nat_tests) in
    rw fills refl
