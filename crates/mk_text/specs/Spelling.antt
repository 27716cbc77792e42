-- Numbers as they are written in columns.
--     right_in width n             the decimal text of n at the right of so many columns
--     signed_right_in width z      its text, behind a minus sign where it is below 0, at their
--                                  right
use Rattle.std.specs.Prelude.{◌≡◌, ℕ, ◌+◌, ◌-◌, ◌^◌, ◌<◌, ◌≤◌, List, ◌∷◌, ◌++◌, length, replicate, decimal, Some, ℤ, pos, negsuc, suc}
use Rattle.mk_text.specs.Fields.{field_of}

-- a text at the right of so many columns
abbrev pub at_right : ℕ → List ℕ → List ℕ
at_right width text = replicate (width - length text) 32 ++ text

-- the decimal text of a number at the right of so many columns
abbrev pub right_in : ℕ → ℕ → List ℕ
right_in width n = at_right width (decimal n)

-- the decimal text of a number, behind a minus sign where it is below 0
abbrev pub signed_decimal : ℤ → List ℕ
signed_decimal (pos n) = decimal n
signed_decimal (negsuc n) = 45 ∷ decimal (suc n)

-- the decimal text of a number, behind a minus sign where it is below 0, at the right of so many
-- columns
abbrev pub signed_right_in : ℕ → ℤ → List ℕ
signed_right_in width z = at_right width (signed_decimal z)

-- the digits of a number, without its sign, are at most nine
abbrev pub HasNineDigits : ℤ → Type 0
HasNineDigits (pos n) = n < 10 ^ 9
HasNineDigits (negsuc n) = suc n < 10 ^ 9

-- a number that is written right-justified in its columns is the number of that field
abbrev pub RightJustifiedIsRead : Type 0
RightJustifiedIsRead =
    (before after : List ℕ) (width n : ℕ) → n < 10 ^ 9 → length (decimal n) ≤ width
    → field_of (before ++ (right_in width n ++ after)) (length before + 1) (length before + width) ≡ Some (pos n)

-- a number with or without a sign that is written right-justified in its columns is the number of
-- that field
abbrev pub SignedRightJustifiedIsRead : Type 0
SignedRightJustifiedIsRead =
    (before after : List ℕ) (width : ℕ) (z : ℤ) → HasNineDigits z → length (signed_decimal z) ≤ width
    → field_of (before ++ (signed_right_in width z ++ after)) (length before + 1) (length before + width) ≡ Some z
