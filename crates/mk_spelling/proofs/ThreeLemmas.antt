-- A number at the right of three columns: how wide its digits are, that it is read again, and how it ends.
use Rattle.std.proofs.Common.{◌≡◌, ℕ, suc, ◌+◌, ◌-◌, ◌/◌, ◌%◌, ◌^◌, ◌<◌, ◌≤◌, Bool, true, false, ◌&&◌, eqb, List, [], ◌∷◌, ◌++◌, length, replicate, refl, sym, ap, ◌∙◌, arith, Some, append_assoc}
use Rattle.std.specs.Prelude.{ℤ, pos, negsuc, neg_ℤ, ◌<ℤ◌, decimal, codes}
use Rattle.std.proofs.lemmas.Fmt.{decimal_digit, decimal_step, decimal_by_steps, length-decimal-le}
use Rattle.std.proofs.lemmas.Bool.Decides.{nat_tests}
use Rattle.std.proofs.lemmas.Int.{ints, to_z-of_z}
use Rattle.std.proofs.lemmas.List.{length-append, length-replicate}
use Rattle.std.proofs.lemmas.List.Folds.{list_all-append}
use mir.Syntax.{w32}
use mir.Val.{SFits, to_z, of_z}
use Rattle.mk_text.specs.Columns.{is_space, are_blank, trimmed}
use Rattle.mk_text.specs.Fields.{IsField, field_in, field_of}
use Rattle.mk_text.specs.Spelling.{at_right, right_in, signed_decimal, signed_right_in, HasNineDigits}
use Rattle.mk_text.proofs.ForCallers.{fields_are_read, columns_between, signed_right_justified_is_read, trimmed_is_between}
use Rattle.mk_spelling.specs.TableSpelling.{three, FitsThree}

-- ---- how wide the digits are

-- one digit
decimal_one : (n : ℕ) → n < 10 → length (decimal n) ≡ 1
decimal_one n small = ap length (decimal_digit n small)

-- one more
length_step : (n : ℕ) → 10 ≤ n → n < 2 ^ 64 → length (decimal n) ≡ length (decimal (n / 10)) + 1
length_step n large small = ap length (decimal_step n large small) ∙ length-append (decimal (n / 10)) ((48 + n % 10) ∷ [])

-- two digits
decimal_two : (n : ℕ) → 10 ≤ n → n < 100 → length (decimal n) ≡ 2
decimal_two n large small = omega (arith, length_step n large (omega arith), decimal_one (n / 10) (omega arith))

-- three digits
decimal_three : (n : ℕ) → 100 ≤ n → n ≤ 999 → length (decimal n) ≡ 3
decimal_three n large small = omega (arith, length_step n (omega arith) (omega arith), decimal_two (n / 10) (omega arith) (omega arith))

-- two blanks before one digit
pub right_one : (n : ℕ) → n < 10 → right_in 3 n ≡ codes "  " ++ decimal n
right_one n small = ap (λ (k : ℕ). replicate (3 - k) 32 ++ decimal n) (decimal_one n small)

-- one before two
pub right_two : (n : ℕ) → 10 ≤ n → n < 100 → right_in 3 n ≡ codes " " ++ decimal n
right_two n large small = ap (λ (k : ℕ). replicate (3 - k) 32 ++ decimal n) (decimal_two n large small)

-- none before three
pub right_three : (n : ℕ) → 100 ≤ n → n ≤ 999 → right_in 3 n ≡ decimal n
right_three n large small = ap (λ (k : ℕ). replicate (3 - k) 32 ++ decimal n) (decimal_three n large small)

-- a blank before a minus sign and one digit
pub minus_one : (n : ℕ) → n < 10 → at_right 3 (45 ∷ decimal n) ≡ codes " -" ++ decimal n
minus_one n small = ap (λ (k : ℕ). replicate (3 - suc k) 32 ++ (45 ∷ decimal n)) (decimal_one n small)

-- none before a minus sign and two
pub minus_two : (n : ℕ) → 10 ≤ n → n ≤ 99 → at_right 3 (45 ∷ decimal n) ≡ codes "-" ++ decimal n
minus_two n large small = ap (λ (k : ℕ). replicate (3 - suc k) 32 ++ (45 ∷ decimal n)) (decimal_two n large (omega arith))

-- ---- numbers that fit

-- the range from 0 on
pub fits_pos : (n : ℕ) → FitsThree (pos n) → n ≤ 999
fits_pos n fits = omega (arith, ints, fits.to)

-- the range below 0
pub fits_negsuc : (n : ℕ) → FitsThree (negsuc n) → suc n ≤ 99
fits_negsuc n fits = omega (arith, ints, fits.from)

-- a count fits
pub count_fits : (n : ℕ) → n ≤ 999 → FitsThree (pos n)
count_fits n small = record { from = omega (arith, ints); to = omega (arith, ints) }

-- the text is no wider than three
signed_narrow : (z : ℤ) → FitsThree z → length (signed_decimal z) ≤ 3
signed_narrow (pos n) fits = let small = fits_pos n fits in length-decimal-le 3 n (omega arith) (omega arith) (omega arith)
signed_narrow (negsuc n) fits =
    let small = fits_negsuc n fits in
    let few : length (decimal (suc n)) ≤ 2 = length-decimal-le 2 (suc n) (omega arith) (omega arith) (omega arith) in
    omega arith

-- and it has few digits
nine_digits : (z : ℤ) → FitsThree z → HasNineDigits z
nine_digits (pos n) fits = let small = fits_pos n fits in omega arith
nine_digits (negsuc n) fits = let small = fits_negsuc n fits in omega arith

-- the columns are three
pub length-three : (z : ℤ) → FitsThree z → length (three z) ≡ 3
unfolding three
length-three z fits =
    let text = signed_decimal z in
    let narrow : length text ≤ 3 = signed_narrow z fits in
    omega (arith, length-append (replicate (3 - length text) 32) text, length-replicate {A = ℕ} (3 - length text) 32)

-- the number of the columns is the number
pub three_is_read : (z : ℤ) → FitsThree z → field_in (three z) ≡ Some z
unfolding three field_of
three_is_read z fits =
    let wide : length (three z) ≡ 3 = length-three z fits in
    ap field_in (sym (columns_between [] (signed_right_in 3 z) [] 1 3 refl (omega arith))) ∙ signed_right_justified_is_read [] [] 3 z (nine_digits z fits) (signed_narrow z fits)

-- so they are a field with it
pub three_is_field : (z : ℤ) → FitsThree z → IsField (three z) z
three_is_field z fits = (fields_are_read (three z) z).0 (three_is_read z fits)

-- ---- ends

-- the last byte is neither a blank nor CR
pub record HasEnd (line : List ℕ) : Type 0 where
  pub front : List ℕ
  pub last : ℕ
  pub whole : line ≡ front ++ last ∷ []
  pub no_blank : eqb last 32 ≡ false
  pub no_cr : eqb last 13 ≡ false

-- whatever stands before
pub end_behind : (before line : List ℕ) → HasEnd line → HasEnd (before ++ line)
end_behind before line end =
    record {
      front = before ++ end.front;
      last = end.last;
      whole = ap (λ (xs : List ℕ). before ++ xs) end.whole ∙ sym (append_assoc before end.front (end.last ∷ []));
      no_blank = end.no_blank;
      no_cr = end.no_cr;
    }

-- one digit at the end
digit_end : (front : List ℕ) (k : ℕ) → k < 10 → HasEnd (front ++ (48 + k) ∷ [])
digit_end front k small = record { front = front; last = 48 + k; whole = refl; no_blank = grind (arith, nat_tests); no_cr = grind (arith, nat_tests) }

-- digits end with a digit
pub decimal_end : (n : ℕ) → n < 2 ^ 64 → HasEnd (decimal n)
decimal_end n small = decimal_by_steps (λ n ds. HasEnd ds) (λ n lt. digit_end [] n lt) (λ n ds large end. digit_end ds (n % 10) (omega arith)) n small

-- and so does a number
pub three_end : (z : ℤ) → FitsThree z → HasEnd (three z)
unfolding three
three_end (pos n) fits = let small = fits_pos n fits in end_behind _ _ (decimal_end n (omega arith))
three_end (negsuc n) fits = let small = fits_negsuc n fits in end_behind _ _ (end_behind (45 ∷ []) (decimal (suc n)) (decimal_end (suc n) (omega arith)))

-- whatever the front is
last_no_blank : (front : Bool) (last : ℕ) → eqb last 32 ≡ false → (front && (eqb last 32 && true)) ≡ false
last_no_blank true last other = rw other refl
last_no_blank false last other = refl

-- what ends so isn't blank
pub end_no_blank : (cells : List ℕ) → HasEnd cells → are_blank cells ≡ false
end_no_blank cells end =
    ap are_blank end.whole ∙ list_all-append is_space end.front (end.last ∷ []) ∙ last_no_blank (are_blank end.front) end.last end.no_blank

-- by what is left
some_by : (cells core : List ℕ) → trimmed cells ≡ core → HasEnd cells → eqb (length core) 0 ≡ false
some_by cells [] none end =
    let between = trimmed_is_between cells in
    let whole : cells ≡ between.before ++ between.after = between.whole ∙ ap (λ (core : List ℕ). between.before ++ (core ++ between.after)) none in
    let blank : are_blank cells ≡ true =
    ap are_blank whole ∙ list_all-append is_space between.before between.after ∙ rw (between.blank_before, between.blank_after) refl in
    absurd (cc (blank, end_no_blank cells end))
some_by cells (c ∷ cs) some end = grind (arith, nat_tests)

-- so something is left of it without its outer blanks
pub end_some : (cells : List ℕ) → HasEnd cells → eqb (length (trimmed cells)) 0 ≡ false
end_some cells end = some_by cells (trimmed cells) refl end

-- ---- for the code

-- a number below 0, by its digits
pub three_below : (z : ℤ) (m : ℕ) → z <ℤ pos 0 → neg_ℤ z ≡ pos m → at_right 3 (45 ∷ decimal m) ≡ three z
unfolding three
three_below (pos n) m below is = absurd (omega (arith, ints, below))
three_below (negsuc n) m below is =
    let same : m ≡ suc n = omega (arith, ints, is) in
    ap (λ (k : ℕ). at_right 3 (45 ∷ decimal k)) same

-- a number from 0 on, by its digits
pub three_from : (z : ℤ) (m : ℕ) → z ≡ pos m → right_in 3 m ≡ three z
unfolding three
three_from z m is = sym (ap (signed_right_in 3) is)

-- such a number fits its type
fits_type : (z : ℤ) → FitsThree z → SFits w32 z
fits_type (pos n) fits = let small = fits_pos n fits in record { sfits = omega arith }
fits_type (negsuc n) fits = let small = fits_negsuc n fits in record { sfits = omega arith }

-- so it is passed to a function as it is
pub passed : (z : ℤ) → FitsThree z → to_z w32 (of_z w32 z) ≡ z
passed z fits = to_z-of_z w32 z (fits_type z fits)
