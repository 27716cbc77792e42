-- Words of a need and of a screen.
--     none_lacks, has_all        a word of a need has no bit that the word of a screen lacks
--     words_none .. words_lack   word by word
use Rattle.std.proofs.Common.{◌≡◌, ◌≢◌, ℕ, ◌+◌, ◌*◌, ◌/◌, ◌%◌, ◌^◌, ◌-◌, ◌<◌, ◌≤◌, inl, inr, Bool, true, false, eqb, List, length, get_or, min, refl, sym, ap, subst, ◌∙◌, arith}
use Rattle.std.specs.Int.{bit_at, bit_not, w64}
use Rattle.std.specs.Prelude.{bit_and}
use Rattle.std.proofs.lemmas.Bool.{cases_eq, cases_lt, eq-eqb, eqb-true}
use Rattle.std.proofs.lemmas.Nat.Bits.{bit_at-lt, bit_at-zero, bit_at_above, bit_at_and, bit_at_not, same_from_bits}
use Rattle.mk_model.specs.Screens.{has_bit}
use Rattle.mk_screen.specs.Covering.{CoversBits, HasAll}

module _ (held need : ℕ) (held_fits : held < 2 ^ 64) (need_fits : need < 2 ^ 64) where
  both : (i : ℕ) → i < 64 → bit_at (bit_and need (bit_not w64 held)) i ≡ min (bit_at need i) (1 - bit_at held i)
  both i below = bit_at_and need (bit_not w64 held) i ∙ ap (min (bit_at need i)) (bit_at_not w64 held i held_fits below)

  pub none_lacks : bit_and need (bit_not w64 held) ≡ 0 → HasAll held need
  none_lacks none i below set =
      let here : bit_at (bit_and need (bit_not w64 held)) i ≡ 0 = ap (λ n. bit_at n i) none ∙ bit_at-zero i in
      omega (arith, both i below, here, bit_at-lt held i)

  pub has_all : HasAll held need → bit_and need (bit_not w64 held) ≡ 0
  has_all all = same_from_bits (bit_and need (bit_not w64 held)) 0 (λ i. each i ∙ sym (bit_at-zero i))
    where
      each : (i : ℕ) → bit_at (bit_and need (bit_not w64 held)) i ≡ 0
      each i = elim (cases_lt i 64) [
        | inl below ↦ (elim (cases_eq (bit_at need i) 1) [
          | inl set ↦ (let there = all i below set in omega (arith, both i below, there))
          | inr other ↦ (let none : bit_at need i ≡ 0 = omega (arith, bit_at-lt need i) in omega (arith, both i below, none))
        ])
        | inr past ↦ (let none : bit_at need i ≡ 0 = bit_at_above need 64 i need_fits past in omega (arith, bit_at_and need (bit_not w64 held) i, none))
      ]

-- ---- word by word

-- the first n words of the need are covered
pub HasWords : ℕ → List ℕ → List ℕ → Type 0
HasWords n held need = (k : ℕ) → k < n → HasAll (get_or held k 0) (get_or need k 0)

pub words_none : (held need : List ℕ) → HasWords 0 held need
unfolding HasWords
words_none held need k below = absurd (omega arith)

pub words_more : (n : ℕ) (held need : List ℕ) → HasWords n held need → HasAll (get_or held n 0) (get_or need n 0) → HasWords (n + 1) held need
unfolding HasWords
words_more n held need so_far here k below = elim (cases_lt k n) [
  | inl before ↦ so_far k before
  | inr at ↦ (let same : n ≡ k = omega arith in let P : ℕ → Type 0 = λ j. HasAll (get_or held j 0) (get_or need j 0) in subst P same here)
]

-- all words together are all bits
pub words_all : (held need : List ℕ) → HasWords 8 held need → CoversBits held need
unfolding HasWords
words_all held need all b below set =
    let set' : bit_at (get_or need (b / 64) 0) (b % 64) ≡ 1 = eqb-true _ 1 set in
    eq-eqb _ 1 (all (b / 64) (omega arith) (b % 64) (omega arith) set')

-- and a word that isn't covered has a bit that isn't
pub words_lack : (held need : List ℕ) (k : ℕ) → k < 8 → CoversBits held need → HasAll (get_or held k 0) (get_or need k 0)
words_lack held need k below all i within set =
    let b = 64 * k + i in
    let word : b / 64 ≡ k = omega arith in
    let place : b % 64 ≡ i = omega arith in
    let asked : has_bit need b ≡ true = rw (word, place) (eq-eqb _ 1 set) in
    let there : has_bit held b ≡ true = all b (omega arith) asked in
    let there' : eqb (bit_at (get_or held k 0) i) 1 ≡ true = rw (word, place) at there in
    eqb-true _ 1 there'
