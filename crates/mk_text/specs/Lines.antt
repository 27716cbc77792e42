-- The lines of a text, the text of lines, and the words of a line.
--     pieces text             what stands between the LF bytes; after an LF at the end of the text
--                             stands nothing
--     lines_of text           the pieces, each without one CR at its end
--     text_of lines           the lines, each with LF behind it
--     EndsWith c bytes        the last byte is this one
--     IsWholeLine bytes       no LF in it, and no CR at its end
--     words_of line           the longest runs of bytes other than blanks
--     LinesHoldNoLf, LinesAreFew, TextOfLinesIsRead       laws of lines
use Rattle.std.specs.Prelude.{◌≡◌, ℕ, ◌≤◌, ◌==◌, Bool, true, false, List, [], ◌∷◌, ◌++◌, length, map, filter, All, Contains, if◌then◌else◌}
use Rattle.std.specs.List.{flat_map, slice_split}

-- the byte at the front of the first piece, or alone where there is none
abbrev pub onto_first_piece : ℕ → List (List ℕ) → List (List ℕ)
onto_first_piece c [] = (c ∷ []) ∷ []
onto_first_piece c (piece ∷ others) = (c ∷ piece) ∷ others

-- what stands between the LF bytes, byte 10; after an LF at the end of the text stands nothing
abbrev pub pieces : List ℕ → List (List ℕ)
pieces [] = []
pieces (c ∷ cs) = if c == 10 then [] ∷ pieces cs else onto_first_piece c (pieces cs)

-- the bytes without one CR, byte 13, at their end
abbrev pub without_cr : List ℕ → List ℕ
without_cr [] = []
without_cr (c ∷ []) = if c == 13 then [] else c ∷ []
without_cr (c ∷ d ∷ cs) = c ∷ without_cr (d ∷ cs)

-- the lines of a text
unfoldable pub lines_of : List ℕ → List (List ℕ)
lines_of text = map without_cr (pieces text)

-- a line and LF, byte 10
abbrev pub ended : List ℕ → List ℕ
ended line = line ++ 10 ∷ []

-- the lines, each with LF behind it
abbrev pub text_of : List (List ℕ) → List ℕ
text_of lines = flat_map ended lines

-- the last of the bytes is c
abbrev pub EndsWith : ℕ → List ℕ → Type 0
EndsWith c bytes = (front : List ℕ) × (bytes ≡ front ++ c ∷ [])

-- the line has no LF in it, and no CR, byte 13, at its end
pub record IsWholeLine (line : List ℕ) : Type 0 where
  pub no_lf : ¬ (Contains line 10)
  pub no_cr : ¬ (EndsWith 13 line)

-- ---- words

-- there is at least one byte
abbrev pub has_bytes : List ℕ → Bool
has_bytes [] = false
has_bytes (c ∷ cs) = true

-- the words of a line: what stands between its blanks, byte 32, where anything does
unfoldable pub words_of : List ℕ → List (List ℕ)
words_of line = filter has_bytes (slice_split (λ c. c == 32) line)

-- ---- laws

-- no line of a text holds an LF
abbrev pub LinesHoldNoLf : Type 0
LinesHoldNoLf = (text : List ℕ) → All (λ line. ¬ (Contains line 10)) (lines_of text)

-- a text has no more lines than bytes
abbrev pub LinesAreFew : Type 0
LinesAreFew = (text : List ℕ) → length (lines_of text) ≤ length text

-- whole lines are the lines of their text
abbrev pub TextOfLinesIsRead : Type 0
TextOfLinesIsRead = (lines : List (List ℕ)) → All IsWholeLine lines → lines_of (text_of lines) ≡ lines
