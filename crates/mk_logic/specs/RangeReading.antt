-- For code alone: range texts, computed.
--     numeral text        the number of one to three digits
--     range_item text     the interval of an item
--     range_of text       the intervals of a range text
use Rattle.std.specs.Prelude.{ℕ, ◌==◌, ◌&&◌, nat_le, nat_lt, List, [], ◌∷◌, length, Option, Some, None, if◌then◌else◌}
use Rattle.std.specs.List.{list_all, position_or_len, before_first, after_first, slice_split}
use Rattle.std.specs.Char.{is_ascii_digit}
use Rattle.std.specs.Str.Parse.{digits_value}
use Rattle.mk_text.specs.Columns.{are_blank, trimmed, without_first_blanks}
use Rattle.mk_text.specs.Options.{◌>>=◌, when}
use Rattle.mk_model.specs.declared.group.Interval.{Interval}
use Rattle.mk_logic.specs.RangeTexts.{from_to, above, below}

-- the number of one to three digits
unfoldable pub range_number : List ℕ → Option ℕ
range_number digits = when (nat_le 1 (length digits) && (nat_le (length digits) 3 && list_all is_ascii_digit digits)) (Some (digits_value 10 digits))

-- the number of one to three digits, with or without blanks around them
abbrev pub numeral : List ℕ → Option ℕ
numeral text = range_number (trimmed text)

-- the interval of one number
abbrev pub one_number_in : List ℕ → Option Interval
one_number_in text = numeral text >>= λ n. Some (from_to n n)

-- the interval of two numbers, of which the first isn't the greater
abbrev pub two_numbers_in : List ℕ → List ℕ → Option Interval
two_numbers_in front rest = numeral front >>= λ n. numeral rest >>= λ m. when (nat_le n m) (Some (from_to n m))

-- one number, or two where a `-` stands
abbrev pub numbers_in : List ℕ → Option Interval
numbers_in text =
    if nat_lt (position_or_len (λ b. b == 45) text) (length text) then two_numbers_in (before_first (λ b. b == 45) text) (after_first (λ b. b == 45) text) else one_number_in text

-- by the first byte that is no blank
abbrev pub item_by : List ℕ → List ℕ → Option Interval
item_by text [] = None
item_by text (c ∷ rest) =
    if c == 62 then (numeral rest >>= λ n. Some (above n)) else (if c == 60 then (numeral rest >>= λ n. Some (below n)) else numbers_in text)

-- the interval of an item
unfoldable pub range_item : List ℕ → Option Interval
range_item text = item_by text (without_first_blanks text)

-- the intervals of the parts
abbrev pub items_of : List (List ℕ) → Option (List Interval)
items_of [] = Some []
items_of (part ∷ parts) = range_item part >>= λ item. items_of parts >>= λ items. Some (item ∷ items)

-- the intervals of a range text
unfoldable pub range_of : List ℕ → Option (List Interval)
range_of text = if are_blank text then Some (above 0 ∷ []) else items_of (slice_split (λ b. b == 44) text)
