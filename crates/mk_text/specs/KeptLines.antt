-- Kept lines: lines without the CR bytes at their ends, each with LF behind it.
--     without_crs line         the line without the CR bytes at its end; those inside stay
--     kept_lines lines         the text of the lines so
--     KeptLinesAreRead         its lines are the lines without the CR bytes at their ends
--     KeptLinesStay            keeping them again changes nothing
use Rattle.std.specs.Prelude.{◌≡◌, ℕ, ◌-◌, ◌==◌, Bool, List, length, map, take, All, Contains}
use Rattle.std.specs.List.{suffix_len}
use Rattle.mk_text.specs.Lines.{lines_of, text_of}

-- CR is byte 13
abbrev pub is_cr : ℕ → Bool
is_cr c = c == 13

-- the line without the CR bytes at its end
abbrev pub without_crs : List ℕ → List ℕ
without_crs line = take (length line - suffix_len is_cr line) line

-- the lines without the CR bytes at their ends, each with LF behind it
abbrev pub kept_lines : List (List ℕ) → List ℕ
kept_lines lines = text_of (map without_crs lines)

-- ---- laws

-- the lines of the kept text are the lines without the CR bytes at their ends, where none holds an
-- LF, as no line of a text does
abbrev pub KeptLinesAreRead : Type 0
KeptLinesAreRead =
    (lines : List (List ℕ)) → All (λ line. ¬ (Contains line 10)) lines → lines_of (kept_lines lines) ≡ map without_crs lines

-- the kept lines of a kept text are that text
abbrev pub KeptLinesStay : Type 0
KeptLinesStay =
    (lines : List (List ℕ)) → All (λ line. ¬ (Contains line 10)) lines → kept_lines (lines_of (kept_lines lines)) ≡ kept_lines lines
