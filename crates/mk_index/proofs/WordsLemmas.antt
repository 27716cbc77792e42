-- The bits of single words after shifts and masks.
--     lowest_is                       the lowest bit that is set
--     without_is, without_less        a bit is cleared
--     from_is                         the bits from a place on
--     closed_is, opened_is            a bit is taken out, and put in
--     put_in_is                       a bit of another word in place of one
--     set_is                          a bit is set
use Rattle.std.proofs.Common.{◌≡◌, ◌≢◌, ℕ, ◌+◌, ◌-◌, ◌*◌, ◌/◌, ◌%◌, ◌^◌, ◌<◌, ◌≤◌, inl, inr, min, max, sym, ap, ◌∙◌, arith, add-zero}
use Rattle.std.specs.Int.{bit_at, bit_not, trailing_zeros, w64}
use Rattle.std.specs.Prelude.{bit_and, bit_or}
use Rattle.std.proofs.lemmas.Bool.{cases_eq, cases_lt, eq-eqb, le-ltb, lt-ltb, ne_eqb}
use Rattle.std.proofs.lemmas.Nat.{and_le_l, and_mask, pow_pos, shr-shr}
use Rattle.std.proofs.lemmas.Nat.Bits.{bit_at-lt, bit_at-trailing_zeros, bit_at-zero, bit_at_above, bit_at_and, bit_at_cat_high, bit_at_cat_low, bit_at_clear_other, bit_at_clear_same, bit_at_mask_below, bit_at_mask_inside, bit_at_not, bit_at_ones, bit_at_or, ones_shl, shr_and_one}
use Rattle.mk_index.specs.Words.{closed_bit, from_bit, opened_bit, put_in_bit, set_bit, without_bit}

-- ---- shifts and masks

-- the low bits of a number are those of it reduced
mod_bit : (n i : ℕ) → i < 64 → bit_at (n % 2 ^ 64) i ≡ bit_at n i
mod_bit n i below =
    let masked : bit_at (n % 2 ^ 64) i ≡ min (bit_at n i) (bit_at (2 ^ 64 - 1) i) = sym (ap (λ m. bit_at m i) (and_mask n 64)) ∙ bit_at_and n (2 ^ 64 - 1) i in
    omega (arith, masked, bit_at_ones 64 i below, bit_at-lt n i)

-- bits go up by a shift
shl_below : (a s i : ℕ) → i < 64 → i < s → bit_at (a * 2 ^ s % 2 ^ 64) i ≡ 0
shl_below a s i below low =
    mod_bit (a * 2 ^ s) i below ∙ (rw (add-zero (a * 2 ^ s)) at (bit_at_cat_low a s 0 i low)) ∙ bit_at-zero i

shl_from : (a s i : ℕ) → i < 64 → s ≤ i → bit_at (a * 2 ^ s % 2 ^ 64) i ≡ bit_at a (i - s)
shl_from a s i below high =
    mod_bit (a * 2 ^ s) i below ∙ (rw (add-zero (a * 2 ^ s)) at (bit_at_cat_high a s 0 i (pow_pos s) high))

-- and down by another
shr_bit : (n s i : ℕ) → bit_at (n / 2 ^ s) i ≡ bit_at n (s + i)
shr_bit n s i = ap (λ m. m % 2) (shr-shr n s i)

-- the ones from a place on
abbrev pub ones_from : ℕ → ℕ
ones_from low = (2 ^ 64 - 1) * 2 ^ low % 2 ^ 64

ones_below : (low k : ℕ) → low < 64 → k < low → bit_at (ones_from low) k ≡ 0
ones_below low k within below = ap (λ m. bit_at m k) (ones_shl 64 low (omega arith)) ∙ bit_at_mask_below low 64 k below

ones_above : (low k : ℕ) → low < 64 → low ≤ k → k < 64 → bit_at (ones_from low) k ≡ 1
ones_above low k within above below = ap (λ m. bit_at m k) (ones_shl 64 low (omega arith)) ∙ bit_at_mask_inside low 64 k above below

ones_fit : (low : ℕ) → ones_from low < 2 ^ 64
ones_fit low = omega arith

-- ---- the lowest bit

pub lowest_is : (word : ℕ) → 0 < word → word < 2 ^ 64 → (trailing_zeros w64 word < 64) × (bit_at word (trailing_zeros w64 word) ≡ 1) × ((i : ℕ) → i < trailing_zeros w64 word → bit_at word i ≡ 0)
lowest_is word some fits = bit_at-trailing_zeros w64 word some fits

-- ---- a bit is cleared

abbrev pub cleared : ℕ → ℕ → ℕ
cleared word place = bit_and word (bit_not w64 (1 * 2 ^ place % 2 ^ 64))

pub without_is : (word place : ℕ) → place < 64 → (k : ℕ) → k < 64 → bit_at (cleared word place) k ≡ without_bit word place k
without_is word place within k below = elim (cases_eq k place) [
  | inl same ↦ rw (eq-eqb k place same, same) (bit_at_clear_same w64 word place within)
  | inr other ↦ rw (ne_eqb k place other) (bit_at_clear_other w64 word place within k below other)
]

pub without_less : (word place : ℕ) → place < 64 → bit_at word place ≡ 1 → cleared word place < word
without_less word place within set =
    let none : bit_at (cleared word place) place ≡ 0 = bit_at_clear_same w64 word place within in
    let differ : cleared word place ≢ word = λ same. (let both : bit_at word place ≡ 0 = ap (λ n. bit_at n place) (sym same) ∙ none in omega arith) in
    omega (arith, and_le_l word (bit_not w64 (1 * 2 ^ place % 2 ^ 64)))

-- ---- from a place on

pub from_is : (word low : ℕ) → low < 64 → (k : ℕ) → k < 64 → bit_at (bit_and word (ones_from low)) k ≡ from_bit word low k
from_is word low within k below = elim (cases_lt k low) [
  | inl before ↦ rw (lt-ltb k low before) (omega (arith, bit_at_and word (ones_from low) k, ones_below low k within before))
  | inr from ↦ rw (le-ltb k low from) (omega (arith, bit_at_and word (ones_from low) k, ones_above low k within from below, bit_at-lt word k))
]

-- the bits below a place
abbrev below_of : ℕ → ℕ → ℕ
below_of word low = bit_and word (bit_not w64 (ones_from low))

below_before : (word low k : ℕ) → low < 64 → k < low → bit_at (below_of word low) k ≡ bit_at word k
below_before word low k within before =
    omega (arith, bit_at_and word (bit_not w64 (ones_from low)) k, bit_at_not w64 (ones_from low) k (ones_fit low) (omega arith), ones_below low k within before, bit_at-lt word k)

below_from : (word low k : ℕ) → low < 64 → low ≤ k → k < 64 → bit_at (below_of word low) k ≡ 0
below_from word low k within from below =
    omega (arith, bit_at_and word (bit_not w64 (ones_from low)) k, bit_at_not w64 (ones_from low) k (ones_fit low) below, ones_above low k within from below)

-- three words together
three : (a b c k : ℕ) → bit_at (bit_or (bit_or a b) c) k ≡ max (max (bit_at a k) (bit_at b k)) (bit_at c k)
three a b c k = bit_at_or (bit_or a b) c k ∙ ap (λ m. max m (bit_at c k)) (bit_at_or a b k)

-- ---- a bit is taken out

abbrev pub closed_word : ℕ → ℕ → ℕ → ℕ
closed_word word next low = bit_or (bit_or (below_of word low) (bit_and (word / 2 ^ 1) (ones_from low))) (next * 2 ^ 63 % 2 ^ 64)

module _ (word next low : ℕ) (word_fits : word < 2 ^ 64) (within : low < 64) (k : ℕ) (below : k < 64) where
  moved_before : k < low → bit_at (bit_and (word / 2 ^ 1) (ones_from low)) k ≡ 0
  moved_before before = omega (arith, bit_at_and (word / 2 ^ 1) (ones_from low) k, ones_below low k within before)

  moved_from : low ≤ k → bit_at (bit_and (word / 2 ^ 1) (ones_from low)) k ≡ bit_at word (1 + k)
  moved_from from = omega (arith, bit_at_and (word / 2 ^ 1) (ones_from low) k, ones_above low k within from below, shr_bit word 1 k, bit_at-lt word (1 + k))

  pub closed_is : bit_at (closed_word word next low) k ≡ closed_bit word next low k
  closed_is =
      three (below_of word low) (bit_and (word / 2 ^ 1) (ones_from low)) (next * 2 ^ 63 % 2 ^ 64) k
      ∙ elim (cases_lt k low) [
        | inl before ↦ rw (lt-ltb k low before) (omega (arith, below_before word low k within before, moved_before before, shl_below next 63 k below (omega arith)))
        | inr from ↦ rw (le-ltb k low from) (elim (cases_lt k 63) [
          | inl inside ↦ (let same : 1 + k ≡ k + 1 = omega arith
              in rw (lt-ltb k 63 inside, ← same) (omega
              (arith, below_from word low k within from below, moved_from from, shl_below next 63 k below inside)))
          | inr top ↦ (
              let last : k ≡ 63 = omega arith in
              let over : 64 ≤ 1 + k = omega arith in
              let place : k - 63 ≡ 0 = omega arith in
              let next_bit : bit_at (next * 2 ^ 63 % 2 ^ 64) k ≡ bit_at next 0 = shl_from next 63 k below top ∙ ap (bit_at next) place in
              rw (le-ltb k 63 top) (omega (arith, below_from word low k within from below, moved_from from, bit_at_above word 64 (1 + k) word_fits over, next_bit)))
        ])
      ]

-- ---- a bit is put in

abbrev pub opened_word : ℕ → ℕ → ℕ → ℕ
opened_word word before low = bit_or (bit_or (below_of word low) (bit_and word (ones_from low) * 2 ^ 1 % 2 ^ 64)) (before / 2 ^ 63 * 2 ^ low % 2 ^ 64)

module _ (word before low : ℕ) (before_fits : before < 2 ^ 64) (within : low < 64) (k : ℕ) (below : k < 64) where
  up_to : k ≤ low → bit_at (bit_and word (ones_from low) * 2 ^ 1 % 2 ^ 64) k ≡ 0
  up_to low' = elim (cases_lt k 1) [
    | inl first ↦ shl_below (bit_and word (ones_from low)) 1 k below first
    | inr later ↦ (let before' : k - 1 < low = omega arith in shl_from (bit_and word (ones_from low)) 1 k below later
        ∙ omega (arith, bit_at_and word (ones_from low) (k - 1), ones_below low (k - 1) within before'))
  ]

  up_above : low < k → bit_at (bit_and word (ones_from low) * 2 ^ 1 % 2 ^ 64) k ≡ bit_at word (k - 1)
  up_above above =
      let from : low ≤ k - 1 = omega arith in
      let inside : k - 1 < 64 = omega arith in
      shl_from (bit_and word (ones_from low)) 1 k below (omega arith) ∙ omega (arith, bit_at_and word (ones_from low) (k - 1), ones_above low (k - 1) within from inside, bit_at-lt word (k - 1))

  carried_above : low < k → bit_at (before / 2 ^ 63 * 2 ^ low % 2 ^ 64) k ≡ 0
  carried_above above =
      let over : 64 ≤ 63 + (k - low) = omega arith in
      shl_from (before / 2 ^ 63) low k below (omega arith) ∙ shr_bit before 63 (k - low) ∙ bit_at_above before 64 (63 + (k - low)) before_fits over

  carried_at : k ≡ low → bit_at (before / 2 ^ 63 * 2 ^ low % 2 ^ 64) k ≡ bit_at before 63
  carried_at at =
      let place : 63 + (k - low) ≡ 63 = omega arith in
      shl_from (before / 2 ^ 63) low k below (omega arith) ∙ shr_bit before 63 (k - low) ∙ ap (bit_at before) place

  pub opened_is : bit_at (opened_word word before low) k ≡ opened_bit word before low k
  opened_is =
      three (below_of word low) (bit_and word (ones_from low) * 2 ^ 1 % 2 ^ 64) (before / 2 ^ 63 * 2 ^ low % 2 ^ 64) k
      ∙ elim (cases_lt k low) [
        | inl under ↦ rw (lt-ltb k low under) (omega (arith, below_before word low k within under, up_to (omega arith), shl_below (before / 2 ^ 63) low k below under))
        | inr from ↦ rw (le-ltb k low from) (elim (cases_eq k low) [
          | inl at ↦ rw (eq-eqb k low at) (omega (arith, below_from word low k within from below, up_to (omega arith), carried_at at))
          | inr other ↦ (let above : low < k = omega arith in rw (ne_eqb k low other) (omega (arith, below_from word low k within from below, up_above above, carried_above above)))
        ])
      ]

-- ---- a bit in place of another

abbrev pub put_word : ℕ → ℕ → ℕ → ℕ → ℕ
put_word word low bits place = bit_or (cleared word low) (bit_and (bits / 2 ^ place) 1 * 2 ^ low % 2 ^ 64)

module _ (word low bits place : ℕ) (within : low < 64) (k : ℕ) (below : k < 64) where
  one_bit : bit_and (bits / 2 ^ place) 1 < 2
  one_bit = (let is = shr_and_one bits place in omega (arith, bit_at-lt bits place))

  at_other : k ≢ low → bit_at (bit_and (bits / 2 ^ place) 1 * 2 ^ low % 2 ^ 64) k ≡ 0
  at_other other = elim (cases_lt k low) [
    | inl before ↦ shl_below (bit_and (bits / 2 ^ place) 1) low k below before
    | inr from ↦ (let above : 1 ≤ k - low = omega arith in shl_from (bit_and (bits / 2 ^ place) 1) low k below from ∙ bit_at_above (bit_and (bits / 2 ^ place) 1) 1 (k - low) one_bit above)
  ]

  at_same : k ≡ low → bit_at (bit_and (bits / 2 ^ place) 1 * 2 ^ low % 2 ^ 64) k ≡ bit_at bits place
  at_same same =
      let none : k - low ≡ 0 = omega arith in
      let is = shr_and_one bits place in
      shl_from (bit_and (bits / 2 ^ place) 1) low k below (omega arith) ∙ ap (bit_at (bit_and (bits / 2 ^ place) 1)) none ∙ omega (arith, bit_at-lt bits place)

  pub put_in_is : bit_at (put_word word low bits place) k ≡ put_in_bit word low bits place k
  put_in_is =
      bit_at_or (cleared word low) (bit_and (bits / 2 ^ place) 1 * 2 ^ low % 2 ^ 64) k
      ∙ elim (cases_eq k low) [
        | inl same ↦ (
            let clear : bit_at (cleared word low) k ≡ 0 = ap (bit_at (cleared word low)) same ∙ bit_at_clear_same w64 word low within in
            rw (eq-eqb k low same) (omega (arith, clear, at_same same)))
        | inr other ↦ rw (ne_eqb k low other) (omega (arith, bit_at_clear_other w64 word low within k below other, at_other other))
      ]

-- ---- a bit is set

pub set_is : (word low : ℕ) → low < 64 → (k : ℕ) → k < 64 → bit_at (bit_or word (1 * 2 ^ low % 2 ^ 64)) k ≡ set_bit word low k
set_is word low within k below =
    bit_at_or word (1 * 2 ^ low % 2 ^ 64) k ∙ elim (cases_eq k low) [
      | inl same ↦
          (let none : k - low ≡ 0 = omega arith in
          let one : bit_at (1 * 2 ^ low % 2 ^ 64) k ≡ 1 = shl_from 1 low k below (omega arith) ∙ ap (bit_at 1) none in
          rw (eq-eqb k low same) (omega (arith, one, bit_at-lt word k)))
      | inr other ↦ rw (ne_eqb k low other) (omega (arith, off other))
    ]
  where
    off : k ≢ low → bit_at (1 * 2 ^ low % 2 ^ 64) k ≡ 0
    off other = elim (cases_lt k low) [
      | inl before ↦ shl_below 1 low k below before
      | inr from ↦ (let above : 1 ≤ k - low = omega arith in shl_from 1 low k below from ∙ bit_at_above 1 1 (k - low) (omega arith) above)
    ]
