-- What two needs have in common.
--     common_first, common_second      a word has all bits of what it has in common with another
--     more_counts                      the lesser counts, place by place
--     more_bits                        the common bits, word by word
--     bits_first, bits_second          all words
use Rattle.std.proofs.Common.{◌≡◌, ◌≢◌, ℕ, ◌+◌, ◌/◌, ◌%◌, ◌<◌, ◌≤◌, inl, inr, List, length, get_or, set, arith}
use Rattle.std.specs.Int.{bit_at}
use Rattle.std.specs.Prelude.{bit_and}
use Rattle.std.proofs.lemmas.Bool.{cases_lt, eq-eqb, eqb-true}
use Rattle.std.proofs.lemmas.Nat.Bits.{bit_at-lt, bit_at_and}
use Rattle.std.proofs.lemmas.List.{get_or-set_other, get_or-set_same}
use Rattle.mk_screen.specs.Covering.{CoversBits, HasAll}

-- a word has all bits of what it has in common with another
pub common_first : (a b : ℕ) → HasAll a (bit_and a b)
common_first a b i below set = omega (arith, bit_at_and a b i, set, bit_at-lt a i, bit_at-lt b i)

pub common_second : (a b : ℕ) → HasAll b (bit_and a b)
common_second a b i below set = omega (arith, bit_at_and a b i, set, bit_at-lt a i, bit_at-lt b i)

-- ---- place by place

-- the first i counts are at most those of both
abbrev pub AreLeast : List ℕ → List ℕ → ℕ → List ℕ → Type 0
AreLeast a b i counts = (k : ℕ) → k < i → (get_or counts k 0 ≤ get_or a k 0) × (get_or counts k 0 ≤ get_or b k 0)

pub more_counts : (a b counts : List ℕ) (i n : ℕ) → i < length counts → n ≤ get_or a i 0 → n ≤ get_or b i 0 → AreLeast a b i counts → AreLeast a b (i + 1) (set counts i n)
more_counts a b counts i n within first second h k below = elim (cases_lt k i) [
  | inl before ↦ (let other : k ≢ i = λ e. omega (arith, e, before) in rw (get_or-set_other counts i k n 0 other) (h k before))
  | inr at ↦ (let same : k ≡ i = omega arith in rw (same, get_or-set_same counts i n 0 within) (first, second))
]

-- the bits of the first i words are those of both
abbrev pub AreCommon : List ℕ → List ℕ → ℕ → List ℕ → Type 0
AreCommon a b i bits = (k : ℕ) → k < i → HasAll (get_or a k 0) (get_or bits k 0) × HasAll (get_or b k 0) (get_or bits k 0)

pub more_bits : (a b bits : List ℕ) (i n : ℕ) → i < length bits → n ≡ bit_and (get_or a i 0) (get_or b i 0) → AreCommon a b i bits → AreCommon a b (i + 1) (set bits i n)
more_bits a b bits i n within both h k below = elim (cases_lt k i) [
  | inl before ↦ (let other : k ≢ i = λ e. omega (arith, e, before) in rw (get_or-set_other bits i k n 0 other) (h k before))
  | inr at ↦ (let same : k ≡ i = omega arith in rw (same, get_or-set_same bits i n 0 within, both) (common_first (get_or a i 0) (get_or b i 0), common_second (get_or a i 0) (get_or b i 0)))
]

-- all words
pub bits_first : (a b bits : List ℕ) (i : ℕ) → 8 ≤ i → AreCommon a b i bits → CoversBits a bits
bits_first a b bits i all h bit below set =
    let set' : bit_at (get_or bits (bit / 64) 0) (bit % 64) ≡ 1 = eqb-true _ 1 set in
    eq-eqb _ 1 ((h (bit / 64) (omega arith)).0 (bit % 64) (omega arith) set')

pub bits_second : (a b bits : List ℕ) (i : ℕ) → 8 ≤ i → AreCommon a b i bits → CoversBits b bits
bits_second a b bits i all h bit below set =
    let set' : bit_at (get_or bits (bit / 64) 0) (bit % 64) ≡ 1 = eqb-true _ 1 set in
    eq-eqb _ 1 ((h (bit / 64) (omega arith)).1 (bit % 64) (omega arith) set')
