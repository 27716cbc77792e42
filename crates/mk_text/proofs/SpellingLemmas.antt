-- A number that is written right-justified in its columns is read again as that number.
use Rattle.std.proofs.Common.{◌≡◌, ℕ, zero, suc, ◌+◌, ◌-◌, ◌%◌, ◌^◌, ◌<◌, ◌≤◌, Bool, true, ◌&&◌, List, [], ◌∷◌, ◌++◌, length, take, drop, replicate, refl, sym, ap, ◌∙◌, arith, Some, append_assoc}
use Rattle.std.specs.Prelude.{pos, negsuc, neg_ℤ, decimal}
use Rattle.std.specs.List.{list_all}
use Rattle.std.specs.Char.{is_ascii_digit}
use Rattle.std.specs.Str.Parse.{digits_value}
use Rattle.std.proofs.lemmas.Fmt.{decimal_is_IsNumeral, decimal_by_steps, length-decimal-le, decimal_nonempty}
use Rattle.std.proofs.lemmas.Bool.Decides.{nat_tests}
use Rattle.std.proofs.lemmas.List.{take_at, drop_at, append-nil, length-append, length-replicate}
use Rattle.std.proofs.lemmas.List.Folds.{list_all-append}
use Rattle.mk_text.specs.Columns.{columns, are_blank}
use Rattle.mk_text.specs.Fields.{NoSign, Minus, field_in, field_of}
use Rattle.mk_text.specs.Spelling.{at_right, right_in, signed_decimal, signed_right_in, RightJustifiedIsRead, SignedRightJustifiedIsRead}
use Rattle.mk_text.proofs.FieldLemmas.{number_given}

-- ---- decimal text

-- a number below 10
one_digit : (n : ℕ) → n < 10 → list_all is_ascii_digit ((48 + n) ∷ []) ≡ true
one_digit n small = grind (arith, nat_tests)

-- one digit more
more_digits : (n : ℕ) (ds : List ℕ) → 10 ≤ n → list_all is_ascii_digit ds ≡ true → list_all is_ascii_digit (ds ++ ((48 + n % 10) ∷ [])) ≡ true
more_digits n ds large digits =
    list_all-append is_ascii_digit ds ((48 + n % 10) ∷ []) ∙ ap (λ (b : Bool). b && list_all is_ascii_digit ((48 + n % 10) ∷ [])) digits ∙ one_digit (n % 10) (omega arith)

-- the decimal text of a number is digits
pub decimal_digits : (n : ℕ) → n < 2 ^ 64 → list_all is_ascii_digit (decimal n) ≡ true
decimal_digits n small = decimal_by_steps (λ n ds. list_all is_ascii_digit ds ≡ true) one_digit more_digits n small

-- of a number below 10 to the ninth there are at most nine
pub few_digits : (n : ℕ) → n < 10 ^ 9 → length (decimal n) ≤ 9
few_digits n small = length-decimal-le 9 n (omega arith) small (omega arith)

-- they write that number
pub decimal_value : (n : ℕ) → n < 2 ^ 64 → digits_value 10 (decimal n) ≡ n
decimal_value n small = (decimal_is_IsNumeral n small).1

-- ---- columns

-- the columns of a line between those before and those after
pub columns_between : (before cells after : List ℕ) (a b : ℕ) → a ≡ length before + 1 → b ≡ length before + length cells → columns (before ++ (cells ++ after)) a b ≡ cells
unfolding columns
columns_between before cells after a b first last =
    let pad : List ℕ = replicate b 32 in
    let line : (before ++ (cells ++ after)) ++ pad ≡ before ++ (cells ++ (after ++ pad)) =
    append_assoc before (cells ++ after) pad ∙ ap (λ (xs : List ℕ). before ++ xs) (append_assoc cells after pad) in
    let start : a - 1 ≡ length before = omega arith in
    let left : drop (a - 1) ((before ++ (cells ++ after)) ++ pad) ≡ cells ++ (after ++ pad) =
    ap (drop (a - 1)) line ∙ drop_at before (cells ++ (after ++ pad)) (a - 1) (sym start) in
    ap (take (b - (a - 1))) left ∙ take_at cells (after ++ pad) (b - (a - 1)) (omega arith)

-- blanks are blank
blanks : (k : ℕ) → are_blank (replicate k 32) ≡ true
blanks zero = refl
blanks (suc k) = blanks k

-- a text at the right of its columns fills them
length-at_right : (width : ℕ) (text : List ℕ) → length text ≤ width → length (at_right width text) ≡ width
length-at_right width text fits =
    omega (arith, length-append (replicate (width - length text) 32) text, length-replicate {A = ℕ} (width - length text) 32)

-- ---- the laws

-- a number is read again
pub right_justified_is_read : RightJustifiedIsRead
unfolding field_of
right_justified_is_read before after width n small fits =
    let pad : List ℕ = replicate (width - length (decimal n)) 32 in
    let wide : n < 2 ^ 64 = omega arith in
    let cells = columns_between before (right_in width n) after (length before + 1) (length before + width) refl (omega (arith, length-at_right width (decimal n) fits)) in
    let some : 1 ≤ length (decimal n) = decimal_nonempty n wide in
    let whole : right_in width n ≡ pad ++ (decimal n ++ []) = ap (λ (xs : List ℕ). pad ++ xs) (sym (append-nil (decimal n))) in
    ap field_in (cells ∙ whole) ∙ number_given pad [] NoSign (decimal n) (blanks (width - length (decimal n))) refl some (few_digits n small) (decimal_digits n wide)
    ∙ ap (λ (k : ℕ). Some (pos k)) (decimal_value n wide)

-- and so is one with a sign
pub signed_right_justified_is_read : SignedRightJustifiedIsRead
unfolding field_of
signed_right_justified_is_read before after width (pos n) small fits = right_justified_is_read before after width n small fits
signed_right_justified_is_read before after width (negsuc n) small fits =
    let text = signed_decimal (negsuc n) in
    let ds = decimal (suc n) in
    let pad : List ℕ = replicate (width - length text) 32 in
    let wide : suc n < 2 ^ 64 = omega arith in
    let cells = columns_between before (signed_right_in width (negsuc n)) after (length before + 1) (length before + width) refl (omega (arith, length-at_right width text fits)) in
    let some : 1 ≤ length ds = decimal_nonempty (suc n) wide in
    let whole : signed_right_in width (negsuc n) ≡ pad ++ ((45 ∷ ds) ++ []) = ap (λ (xs : List ℕ). pad ++ xs) (sym (append-nil (45 ∷ ds))) in
    ap field_in (cells ∙ whole) ∙ number_given pad [] Minus ds (blanks (width - length text)) refl some (few_digits (suc n) small) (decimal_digits (suc n) wide)
    ∙ ap (λ (k : ℕ). Some (neg_ℤ (pos k))) (decimal_value (suc n) wide)
