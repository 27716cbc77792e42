-- The lines of an input that comes piece by piece.
--     whole_lines text         what stands in front of each LF
--     rest_of text             what stands behind the last LF
--     all_lines text           the same, with the rest as a last line where it has bytes
--     line_bytes               how many bytes a line may have
--     orders_of_raw line, orders_of_all lines      what lines ask for, as they stand between two LF
use Rattle.std.specs.Prelude.{ℕ, ◌==◌, List, [], ◌∷◌, ◌++◌, length, None, nat_lt, if◌then◌else◌}
use Rattle.std.specs.List.{flat_map}
use Rattle.mk_text.specs.Lines.{without_cr}
use Rattle.mk_session.specs.Orders.{Order, orders_of_line}

-- what stands in front of each LF, byte 10, where this was read of the first line
abbrev pub whole_from : List ℕ → List ℕ → List (List ℕ)
whole_from line [] = []
whole_from line (c ∷ cs) = if c == 10 then line ∷ whole_from [] cs else whole_from (line ++ c ∷ []) cs

-- what stands behind the last LF, where this was read of the first line
abbrev pub rest_from : List ℕ → List ℕ → List ℕ
rest_from line [] = line
rest_from line (c ∷ cs) = if c == 10 then rest_from [] cs else rest_from (line ++ c ∷ []) cs

-- what stands in front of each LF of the text
abbrev pub whole_lines : List ℕ → List (List ℕ)
whole_lines text = whole_from [] text

-- what stands behind its last LF
abbrev pub rest_of : List ℕ → List ℕ
rest_of text = rest_from [] text

-- a rest that has bytes is a line
abbrev pub last_line : List ℕ → List (List ℕ)
last_line [] = []
last_line (c ∷ cs) = (c ∷ cs) ∷ []

-- all lines of the text, of which the last may lack its LF
abbrev pub all_lines : List ℕ → List (List ℕ)
all_lines text = whole_lines text ++ last_line (rest_of text)

-- a line has at most so many bytes
abbrev pub line_bytes : ℕ
line_bytes = 65536

-- what a line asks for that may have so many bytes: a longer one is no command
abbrev pub orders_within : ℕ → List ℕ → List Order
orders_within most line = if nat_lt most (length line) then None ∷ [] else orders_of_line (without_cr line)

-- what a line asks for, as it stands between two LF
abbrev pub orders_of_raw : List ℕ → List Order
orders_of_raw line = orders_within line_bytes line

-- what the lines ask for, in order
abbrev pub orders_of_all : List (List ℕ) → List Order
orders_of_all lines = flat_map orders_of_raw lines
