-- The columns of a line. They count from 1, and a column past the line's end is blank.
--     standing line a b      the columns a to b, as far as they stand on the line
--     columns line a b       the columns a to b, blank past the line's end
--     are_blank cells        there are blanks alone, or nothing
--     trimmed cells          without the blanks at both ends
use Rattle.std.specs.Prelude.{ℕ, ◌-◌, ◌==◌, Bool, List, ◌++◌, length, take, drop, replicate, slice_range}
use Rattle.std.specs.List.{prefix_len, suffix_len, list_all}

-- the columns a to b, as far as they stand on the line
abbrev pub standing : List ℕ → ℕ → ℕ → List ℕ
standing line a b = slice_range line (a - 1) b

-- the columns a to b, blank past the line's end
unfoldable pub columns : List ℕ → ℕ → ℕ → List ℕ
columns line a b = standing (line ++ replicate b 32) a b

-- a blank is byte 32
abbrev pub is_space : ℕ → Bool
is_space c = c == 32

-- the columns are blanks alone, or none
abbrev pub are_blank : List ℕ → Bool
are_blank cells = list_all is_space cells

-- the text without the blanks at its front
abbrev pub without_first_blanks : List ℕ → List ℕ
without_first_blanks cells = drop (prefix_len is_space cells) cells

-- the text without the blanks at its end
abbrev pub without_last_blanks : List ℕ → List ℕ
without_last_blanks cells = take (length cells - suffix_len is_space cells) cells

-- the text without the blanks at both ends
abbrev pub trimmed : List ℕ → List ℕ
trimmed cells = without_last_blanks (without_first_blanks cells)
