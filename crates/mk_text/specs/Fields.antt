-- Numeric fields: columns that hold a number.
--     IsField cells n            the columns are a numeric field with the number n
--     field_of line a b          the number of the columns a to b of a line, or None
--     FieldsAreRead              the two agree
use Rattle.std.specs.Prelude.{◌≡◌, ℕ, ◌≤◌, ◌↔◌, ◌&&◌, ◌==◌, ◌⊎◌, true, nat_le, List, [], ◌∷◌, ◌++◌, length, Option, Some, None, ℤ, pos, neg_ℤ, if◌then◌else◌}
use Rattle.std.specs.Option.{option_map}
use Rattle.std.specs.List.{list_all}
use Rattle.std.specs.Char.{is_ascii_digit}
use Rattle.std.specs.Str.Parse.{digits_value}
use Rattle.mk_text.specs.Columns.{columns, are_blank, trimmed}

-- what may stand before the digits
pub data Sign : Type 0 where
  NoSign : Sign
  Plus : Sign
  Minus : Sign

-- the bytes of a sign: none, `+` or `-`
abbrev pub sign_text : Sign → List ℕ
sign_text NoSign = []
sign_text Plus = 43 ∷ []
sign_text Minus = 45 ∷ []

-- the number n with a sign
abbrev pub signed : Sign → ℕ → ℤ
signed NoSign n = pos n
signed Plus n = pos n
signed Minus n = neg_ℤ (pos n)

-- blanks, a sign or none, one to nine digits, and blanks
pub record IsNumberField (cells : List ℕ) (number : ℤ) : Type 0 where
  pub before : List ℕ
  pub sign : Sign
  pub digits : List ℕ
  pub after : List ℕ
  pub whole : cells ≡ before ++ ((sign_text sign ++ digits) ++ after)
  pub blank_before : are_blank before ≡ true
  pub blank_after : are_blank after ≡ true
  pub some_digits : 1 ≤ length digits
  pub few_digits : length digits ≤ 9
  pub are_digits : list_all is_ascii_digit digits ≡ true
  pub value : number ≡ signed sign (digits_value 10 digits)

-- the columns hold a number, or blanks alone for the number 0
abbrev pub IsField : List ℕ → ℤ → Type 0
IsField cells number = ((are_blank cells ≡ true) × (number ≡ pos 0)) ⊎ IsNumberField cells number

-- ---- the same, computed

-- the number of one to nine digits
unfoldable pub digits_number : List ℕ → Option ℕ
digits_number ds = if nat_le 1 (length ds) && (nat_le (length ds) 9 && list_all is_ascii_digit ds) then Some (digits_value 10 ds) else None

-- the number of a sign or none and digits, and 0 of nothing
abbrev pub signed_in : List ℕ → Option ℤ
signed_in [] = Some (pos 0)
signed_in (c ∷ cs) = if c == 43 then option_map pos (digits_number cs) else (if c == 45 then option_map (λ n. neg_ℤ (pos n)) (digits_number cs) else option_map pos (digits_number (c ∷ cs)))

-- the number that columns hold
abbrev pub field_in : List ℕ → Option ℤ
field_in cells = signed_in (trimmed cells)

-- the number of the columns a to b of a line, or None
unfoldable pub field_of : List ℕ → ℕ → ℕ → Option ℤ
field_of line a b = field_in (columns line a b)

-- columns are a numeric field with a number exactly where the computation gives it
abbrev pub FieldsAreRead : Type 0
FieldsAreRead = (cells : List ℕ) (n : ℤ) → (field_in cells ≡ Some n) ↔ IsField cells n
