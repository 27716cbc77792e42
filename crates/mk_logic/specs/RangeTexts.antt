-- Range texts: how often a group may be filled, as it is written behind `M  LOG`.
--     IsNumeral text n           a number of one to three digits, with blanks around it
--     IsRangeItem text interval  `n`, `n-m`, `>n` or `<n`
--     AreRangeItems text range   items joined by commas
--     IsRangeText text range     such items, or blanks alone
--     OneRange                   a text is at most one range
use Rattle.std.specs.Prelude.{◌≡◌, ◌≤◌, ◌+◌, ℕ, zero, suc, true, List, [], ◌∷◌, ◌++◌, length}
use Rattle.std.specs.List.{list_all}
use Rattle.std.specs.Char.{is_ascii_digit}
use Rattle.std.specs.Str.Parse.{digits_value}
use Rattle.mk_text.specs.Columns.{are_blank}
use Rattle.mk_model.specs.declared.group.Interval.{Interval}

-- blanks, one to three digits, and blanks
pub record IsNumeral (text : List ℕ) (n : ℕ) : Type 0 where
  pub before : List ℕ
  pub digits : List ℕ
  pub after : List ℕ
  pub whole : text ≡ before ++ (digits ++ after)
  pub blank_before : are_blank before ≡ true
  pub blank_after : are_blank after ≡ true
  pub some_digits : 1 ≤ length digits
  pub few_digits : length digits ≤ 3
  pub are_digits : list_all is_ascii_digit digits ≡ true
  pub value : n ≡ digits_value 10 digits

-- ---- intervals

-- the numbers from n to m
abbrev pub from_to : ℕ → ℕ → Interval
from_to n m = record { least = n; most = m }

-- the numbers above n, up to 999,999
abbrev pub above : ℕ → Interval
above n = from_to (n + 1) 999999

-- the numbers below n; below 0 there is none, which is written as those from 1 to 0
abbrev pub below : ℕ → Interval
below zero = from_to 1 0
below (suc n) = from_to 0 n

-- ---- items

-- a sign behind blanks, with a number behind it
pub record IsSigned (sign : ℕ) (text : List ℕ) (n : ℕ) : Type 0 where
  pub before : List ℕ
  pub rest : List ℕ
  pub whole : text ≡ before ++ sign ∷ rest
  pub blank_before : are_blank before ≡ true
  pub number : IsNumeral rest n

-- two numbers with `-`, byte 45, between them
pub record IsSpan (text : List ℕ) (n m : ℕ) : Type 0 where
  pub front : List ℕ
  pub rest : List ℕ
  pub whole : text ≡ front ++ 45 ∷ rest
  pub first : IsNumeral front n
  pub second : IsNumeral rest m

-- the text is one item of a range, and these are its numbers
pub data IsRangeItem (text : List ℕ) (interval : Interval) : Type 0 where
  -- `n` is n alone
  one_number : (n : ℕ) → IsNumeral text n → interval ≡ from_to n n → IsRangeItem text interval
  -- `n-m`, where n is at most m
  two_numbers : (n m : ℕ) → IsSpan text n m → n ≤ m → interval ≡ from_to n m → IsRangeItem text interval
  -- `>n`: the sign is byte 62
  more_than : (n : ℕ) → IsSigned 62 text n → interval ≡ above n → IsRangeItem text interval
  -- `<n`: the sign is byte 60
  less_than : (n : ℕ) → IsSigned 60 text n → interval ≡ below n → IsRangeItem text interval

-- ---- ranges

-- one item or more, joined by commas, byte 44
abbrev pub AreRangeItems : List ℕ → List Interval → Type 0
AreRangeItems text [] = ⊥
AreRangeItems text (item ∷ []) = IsRangeItem text item
AreRangeItems text (item ∷ next ∷ items) =
    (front : List ℕ) × (rest : List ℕ) × (text ≡ front ++ 44 ∷ rest) × IsRangeItem front item × AreRangeItems rest (next ∷ items)

-- the text, and the range that it says
pub data IsRangeText (text : List ℕ) (range : List Interval) : Type 0 where
  -- blanks alone, or nothing, are the numbers above 0
  blank_text : are_blank text ≡ true → range ≡ above 0 ∷ [] → IsRangeText text range
  -- and otherwise the items are the range
  item_text : AreRangeItems text range → IsRangeText text range

-- a text is at most one range
abbrev pub OneRange : Type 0
OneRange = (text : List ℕ) (one other : List Interval) → IsRangeText text one → IsRangeText text other → one ≡ other
