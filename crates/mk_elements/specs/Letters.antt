-- The table from letters to numbers and the text of symbols, as the code reads them.
--     at_letters first second     the element of these two letters, where 96 as the second stands
--                                 for none
--     by_letters symbol           the element of these bytes
--     columns_of text z           the columns of element z in a text of symbols
use Rattle.std.specs.Prelude.{◌+◌, ◌*◌, ◌-◌, ◌==◌, ◌||◌, nat_lt, ℕ, Option, Some, None, List, [], ◌∷◌, take, drop, if◌then◌else◌, slice_index}
use Rattle.mk_elements.specs.declared.symbols.TheConstants.{NUMBERS}

-- a number of the table, where 0 is no element
abbrev pub some_number : ℕ → Option ℕ
some_number z = if z == 0 then None else Some z

-- the element of these two letters, where the byte before `a` as the second stands for none
unfoldable pub at_letters : ℕ → ℕ → Option ℕ
at_letters first second =
    if nat_lt first 65 || nat_lt 90 first || nat_lt 122 second then None
    else some_number (slice_index NUMBERS.now ((first - 65) * 27 + (second - 96)))

-- the element of one letter, or of a letter and a small one
unfoldable pub by_letters : List ℕ → Option ℕ
by_letters [] = None
by_letters (first ∷ []) = at_letters first 96
by_letters (first ∷ second ∷ []) = if nat_lt second 97 then None else at_letters first second
by_letters (first ∷ second ∷ third ∷ others) = None

-- the two columns of element z in a text of symbols, without the blank
unfoldable pub columns_of : List ℕ → ℕ → List ℕ
columns_of text z =
    if slice_index text (2 * (z - 1) + 1) == 32 then take 1 (drop (2 * (z - 1)) text)
    else take 2 (drop (2 * (z - 1)) text)
