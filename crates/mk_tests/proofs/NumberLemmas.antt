-- What is counted over the numbers of an atom's bonds is counted over all bonds that touch the atom.
--     count-numbers       how many of the numbered bonds pass a test
--     any-numbers         whether some of them does
--     fails-at            the bond of a number fails where it doesn't pass
use Rattle.std.proofs.Common.{◌≡◌, ◌≤◌, ◌<◌, ◌+◌, ◌-◌, ℕ, zero, suc, Bool, true, false, cond, List, [], ◌∷◌, Some, refl, ap, length, drop, map, arith, zero-add}
use Rattle.std.specs.Prelude.{◌&&◌, ◌||◌, not, count_by, slice_get}
use Rattle.std.specs.List.{list_any}
use Rattle.std.proofs.lemmas.List.Sums.{sum_by-cons}
use Rattle.mk_model.specs.declared.edge.Edge.{Edge}
use Rattle.mk_model.specs.Edges.{numbers_from, numbers_at, touches}
use Rattle.mk_model.specs.Fitting.{count_at, passes_at, passes_some}

-- ---- a list from one of its places on

-- the element at the place where the rest begins
front-at : {B : Type 0} (all rest : List B) (k : ℕ) (b : B) → drop k all ≡ b ∷ rest → slice_get all k ≡ Some b
front-at [] rest zero b is = cc
front-at [] rest (suc k) b is = cc
front-at (x ∷ all) rest zero b is = let same : x ≡ b = cc in ap Some same
front-at (x ∷ all) rest (suc k) b is = front-at all rest k b is

-- the rest behind it
front-next : {B : Type 0} (all rest : List B) (k : ℕ) (b : B) → drop k all ≡ b ∷ rest → drop (k + 1) all ≡ rest
front-next [] rest zero b is = cc
front-next [] rest (suc k) b is = cc
front-next (x ∷ all) rest zero b is = let same : all ≡ rest = cc in same
front-next (x ∷ all) rest (suc k) b is =
    let next : suc k + 1 ≡ suc (k + 1) = omega arith in
    rw next (front-next all rest k b is)

-- the bond that has the number of the place passes where it does
passes-here : {B : Type 0} (test : B → Bool) (all rest : List B) (k : ℕ) (b : B) → drop k all ≡ b ∷ rest → passes_at test all (k + 1) ≡ test b
passes-here test all rest k b is =
    let place : k + 1 - 1 ≡ k = omega arith in
    rw (place, front-at all rest k b is) refl

-- ---- counts

-- how many pass, of the bonds from a place on
count-from : {B : Type 0} (edge : B → Edge) (test : B → Bool) (all bonds : List B) (n k : ℕ) → drop k all ≡ bonds
    → count_by (λ number. passes_at test all number) (numbers_from (k + 1) (map edge bonds) n) ≡ count_by
    (λ bond. touches n (edge bond) && test bond) bonds
count-from edge test all [] n k is = refl
count-from edge test all (b ∷ rest) n k is =
    let later = count-from edge test all rest n (k + 1) (front-next all rest k b is) in
    let here : passes_at test all (k + 1) ≡ test b = passes-here test all rest k b is in
    rw (sum_by-cons (λ bond. cond (touches n (edge bond) && test bond) 1 0) b rest)
    (elim (touches n (edge b)) as (λ t. count_by (λ number. passes_at test all number)
    (cond t ((k + 1) ∷ numbers_from (k + 1 + 1) (map edge rest) n) (numbers_from (k + 1 + 1) (map edge rest) n))
    ≡ cond (t && test b) 1 0 + count_by (λ bond. touches n (edge bond) && test bond) rest) [
      | true ↦ rw (sum_by-cons (λ number. cond (passes_at test all number) 1 0) (k + 1) (numbers_from (k + 1 + 1) (map edge rest) n), here, later) refl
      | false ↦ rw zero-add later
    ])

-- how many of the numbered bonds of an atom pass
pub count-numbers : {B : Type 0} (edge : B → Edge) (test : B → Bool) (bonds : List B) (n : ℕ)
    → count_by (λ number. passes_at test bonds number) (numbers_at (map edge bonds) n) ≡ count_at edge test bonds n
count-numbers edge test bonds n = count-from edge test bonds bonds n 0 refl

-- whether some passes, of the bonds from a place on
any-from : {B : Type 0} (edge : B → Edge) (test : B → Bool) (all bonds : List B) (n k : ℕ) → drop k all ≡ bonds
    → list_any (λ number. passes_at test all number) (numbers_from (k + 1) (map edge bonds) n) ≡ list_any
    (λ bond. touches n (edge bond) && test bond) bonds
any-from edge test all [] n k is = refl
any-from edge test all (b ∷ rest) n k is =
    let later = any-from edge test all rest n (k + 1) (front-next all rest k b is) in
    let here : passes_at test all (k + 1) ≡ test b = passes-here test all rest k b is in
    elim (touches n (edge b)) as (λ t. list_any (λ number. passes_at test all number)
    (cond t ((k + 1) ∷ numbers_from (k + 1 + 1) (map edge rest) n) (numbers_from (k + 1 + 1) (map edge rest) n)) ≡
    ((t && test b) || list_any (λ bond. touches n (edge bond) && test bond) rest))
    [ true ↦ rw (here, later) refl | false ↦ later ]

-- whether some of the numbered bonds of an atom passes
pub any-numbers : {B : Type 0} (edge : B → Edge) (test : B → Bool) (bonds : List B) (n : ℕ)
    → list_any (λ number. passes_at test bonds number) (numbers_at (map edge bonds) n) ≡ list_any
    (λ bond. touches n (edge bond) && test bond) bonds
any-numbers edge test bonds n = any-from edge test bonds bonds n 0 refl

-- ---- one number

-- the item at a place fails where it doesn't pass
fails-there : {B : Type 0} (test : B → Bool) (bonds : List B) (k : ℕ) → k < length bonds → passes_some (λ bond. not (test bond)) (slice_get bonds k) ≡ not (passes_some test (slice_get bonds k))
fails-there test [] k below = absurd (omega (arith, below))
fails-there test (bond ∷ bonds) zero below = refl
fails-there test (bond ∷ bonds) (suc k) below = fails-there test bonds k (omega (arith, below))

-- the bond of a number fails where it doesn't pass
pub fails-at : {B : Type 0} (test : B → Bool) (bonds : List B) (number : ℕ) → 1 ≤ number → number ≤ length bonds → passes_at (λ bond. not (test bond)) bonds number ≡ not (passes_at test bonds number)
fails-at test bonds number least most = fails-there test bonds (number - 1) (omega (arith, least, most))
