-- One bit of eight words.
--     put_one      the bit is set, and the others are as they were
use Rattle.std.proofs.Common.{◌≡◌, ◌≢◌, ℕ, ◌+◌, ◌*◌, ◌/◌, ◌%◌, ◌^◌, ◌<◌, inl, inr, Bool, true, false, ◌||◌, eqb, List, [], ◌∷◌, length, get_or, set, refl, sym, ap, ◌∙◌, arith}
use Rattle.std.specs.Int.{bit_at, w64}
use Rattle.std.specs.Prelude.{bit_or}
use Rattle.std.proofs.lemmas.Bool.{cases_eq, eq-eqb, ne_eqb}
use Rattle.std.proofs.lemmas.Nat.Bits.{bit_at_set_other, bit_at_set_same}
use Rattle.std.proofs.lemmas.List.{get_or-set_other, get_or-set_same, length-set}
use Rattle.mk_model.specs.Screens.{has_bit}
use Rattle.mk_screen.specs.Paths.{Adds}

or_true : (a : Bool) → true ≡ (a || true)
or_true true = refl
or_true false = refl

or_none : (a : Bool) → a ≡ (a || false)
or_none true = refl
or_none false = refl

-- what stands in place of the word of the bit
abbrev pub with_bit : List ℕ → ℕ → ℕ
with_bit bits b = bit_or (get_or bits (b / 64) 0) (1 * 2 ^ (b % 64) % 2 ^ 64)

module _ (bits : List ℕ) (b : ℕ) (size : length bits ≡ 8) (below : b < 512) where
  within : b / 64 < length bits
  within = omega arith

  same : has_bit (set bits (b / 64) (with_bit bits b)) b ≡ true
  same = rw (get_or-set_same bits (b / 64) (with_bit bits b) 0 within, bit_at_set_same w64 (get_or bits (b / 64) 0) (b % 64) (omega arith)) refl

  other_bit : (c : ℕ) → c / 64 ≡ b / 64 → c ≢ b → has_bit (set bits (b / 64) (with_bit bits b)) c ≡ has_bit bits c
  other_bit c word other =
      let place : (c % 64 ≡ b % 64) → ⊥ = λ e. other (omega (arith, word, e)) in
      rw (word, get_or-set_same bits (b / 64) (with_bit bits b) 0 within, bit_at_set_other w64 (get_or bits (b / 64) 0) (b % 64) (omega arith) (c % 64) place) refl

  other_word : (c : ℕ) → c / 64 ≢ b / 64 → has_bit (set bits (b / 64) (with_bit bits b)) c ≡ has_bit bits c
  other_word c word = rw (get_or-set_other bits (b / 64) (c / 64) (with_bit bits b) 0 word) refl

  at : (c : ℕ) → has_bit (set bits (b / 64) (with_bit bits b)) c ≡ (has_bit bits c || (eqb b c || false))
  at c = elim (cases_eq b c) [
    | inl is ↦ rw (eq-eqb b c is, ← is) (same ∙ or_true (has_bit bits b))
    | inr other ↦ elim (cases_eq (c / 64) (b / 64)) [
      | inl word ↦ rw (ne_eqb b c other) (other_bit c word (λ e. other (sym e)) ∙ or_none (has_bit bits c))
      | inr word ↦ rw (ne_eqb b c other) (other_word c word ∙ or_none (has_bit bits c))
    ]
  ]

  -- the bit is set, and the others are as they were
  pub put_one : Adds (b ∷ []) bits (set bits (b / 64) (with_bit bits b))
  put_one = record { size = length-set bits (b / 64) (with_bit bits b); bits = λ c _. at c }
