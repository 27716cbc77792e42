-- The numbers up to n, one after another.
use Rattle.std.proofs.Common.{◌≡◌, ◌∙◌, ℕ, zero, suc, ◌+◌, ◌<◌, List, [], ◌∷◌, ◌++◌, length, get_or, map, refl, ap, arith}
use Rattle.std.specs.List.{flat_map, range_with_len}
use Rattle.std.proofs.lemmas.List.{map_push}
use Rattle.std.proofs.lemmas.List.Concat.{flat_map-append}
use Rattle.std.proofs.lemmas.List.FromFn.{get_or-map-range_with_len, length-map-range_with_len}
use Rattle.mk_model.specs.Pieces.{numbers_to}

range_push : (a n : ℕ) → range_with_len a (suc n) ≡ range_with_len a n ++ (a + n) ∷ []
range_push a zero = (let same : a ≡ a + 0 = omega arith in ap (λ k. k ∷ []) same)
range_push a (suc n) = (let same : a + 1 + n ≡ a + suc n = omega arith in ap (λ s. a ∷ s) (range_push (a + 1) n ∙ ap (λ k. range_with_len (a + 1) n ++ k ∷ []) same))

pub numbers_suc : (n : ℕ) → numbers_to (suc n) ≡ numbers_to n ++ suc n ∷ []
numbers_suc n = (let same : 1 + n ≡ suc n = omega arith in range_push 1 n ∙ ap (λ k. numbers_to n ++ k ∷ []) same)

pub numbers_more : (n : ℕ) → numbers_to (n + 1) ≡ numbers_to n ++ (n + 1) ∷ []
numbers_more n = (let same : n + 1 ≡ suc n = omega arith in rw same (numbers_suc n))

-- what is made of the numbers, one more
pub mapped_more : {X : Type 0} (f : ℕ → X) (n : ℕ) → map f (numbers_to (n + 1)) ≡ map f (numbers_to n) ++ f (n + 1) ∷ []
mapped_more f n = ap (map f) (numbers_more n) ∙ map_push f (numbers_to n) (n + 1)

pub flat_more : {X : Type 0} (f : ℕ → List X) (n : ℕ) → flat_map f (numbers_to (n + 1)) ≡ flat_map f (numbers_to n) ++ f (n + 1)
flat_more {X} f n = ap (flat_map f) (numbers_more n) ∙ flat_map-append f (numbers_to n) ((n + 1) ∷ []) ∙ ap (λ s. flat_map f (numbers_to n) ++ s) (nothing_behind (f (n + 1)))
  where
    nothing_behind : (s : List X) → s ++ [] ≡ s
    nothing_behind [] = refl
    nothing_behind (x ∷ s) = ap (λ t. x ∷ t) (nothing_behind s)

-- and at a place
pub mapped_at : {X : Type 0} (f : ℕ → X) (n k : ℕ) (d : X) → k < n → get_or (map f (numbers_to n)) k d ≡ f (1 + k)
mapped_at f n k d below = get_or-map-range_with_len f 1 n k (1 + k) d below refl

pub mapped_length : {X : Type 0} (f : ℕ → X) (n : ℕ) → length (map f (numbers_to n)) ≡ n
mapped_length f n = length-map-range_with_len f 1 n
