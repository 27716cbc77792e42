-- Decimal digits and the number that they write.
use Rattle.std.proofs.Common.{◌≡◌, ℕ, zero, suc, ◌+◌, ◌-◌, ◌*◌, ◌^◌, ◌<◌, ◌≤◌, true, List, [], ◌∷◌, length, get_or, take, refl, ◌∙◌, arith}
use Rattle.std.specs.List.{list_all}
use Rattle.std.specs.Char.{digit_value}
use Rattle.std.specs.Str.Parse.{digits_value, AllDigits}
use Rattle.std.proofs.lemmas.Bool.Decides.{nat_tests}
use Rattle.std.proofs.lemmas.Int.Digits.{digits_value-lt, digits_value_more}
use Rattle.std.proofs.lemmas.Str.Parse.{digits_value-take-le}
use Rattle.std.proofs.Math.Nat.{pow-le-pow_right}
use Rattle.std.specs.Char.{is_ascii_digit}
use Rattle.mk_text.proofs.TestLemmas.{both}

-- a digit lies between 48 and 57
pub is_digit_range : (b : ℕ) → is_ascii_digit b ≡ true → (48 ≤ b) × (b ≤ 57)
is_digit_range b h = grind (arith, nat_tests)

-- its value
pub digit_is : (b : ℕ) → 48 ≤ b → b ≤ 57 → digit_value b ≡ b - 48
digit_is b h k = grind (arith, nat_tests)

-- each of some digits
pub all_digits : (ds : List ℕ) → list_all is_ascii_digit ds ≡ true → AllDigits 10 ds
all_digits [] h = tt
all_digits (d ∷ ds) h =
    let k = both (is_ascii_digit d) (list_all is_ascii_digit ds) h in
    let r = is_digit_range d k.0 in
    (omega (arith, digit_is d r.0 r.1), all_digits ds k.1)

-- any front of nine digits or fewer is below 10 ^ 9
pub value_small : (ds : List ℕ) (i : ℕ) → list_all is_ascii_digit ds ≡ true → length ds ≤ 9 → digits_value 10 (take i ds) < 1000000000
value_small ds i all le =
    let whole = digits_value-lt 10 ds (all_digits ds all) in
    let front = digits_value-take-le 10 ds i (omega arith) in
    let power : 10 ^ length ds ≤ 10 ^ 9 = pow-le-pow_right {n = 10} (omega arith) le in
    omega arith

-- the digit at a place
pub digit_at : (ds : List ℕ) (i : ℕ) → list_all is_ascii_digit ds ≡ true → i < length ds → (48 ≤ get_or ds i 0) × (get_or ds i 0 ≤ 57)
digit_at [] i all lt = absurd (omega arith)
digit_at (d ∷ ds) zero all lt = is_digit_range d (both (is_ascii_digit d) (list_all is_ascii_digit ds) all).0
digit_at (d ∷ ds) (suc i) all lt = digit_at ds i (both (is_ascii_digit d) (list_all is_ascii_digit ds) all).1 (omega arith)

-- one digit more
pub value_more : (ds : List ℕ) (i n : ℕ) → list_all is_ascii_digit ds ≡ true → i < length ds → n ≡ digits_value 10 (take i ds) → digits_value 10 (take (i + 1) ds) ≡ n * 10 + (get_or ds i 0 - 48)
value_more ds i n all lt e =
    let r = digit_at ds i all lt in
    digits_value_more 10 ds i lt ∙ (let k = digit_is (get_or ds i 0) r.0 r.1 in rw (k, e) refl)
