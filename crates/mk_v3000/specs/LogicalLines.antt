-- Logical lines: the lines of a V3000 table that are read as one, and their words.
--     is_logical line            the line begins `M  V30 `
--     text_behind line           what follows, without the blanks and CR bytes at its end
--     goes_on, closes            the text ends with `-`, and the next line goes on with it; or not
--     joined_text lines          the texts in one, without the `-` of those that go on
--     IsLogicalLine lines words  the lines are one logical line with these words
use Rattle.std.specs.Prelude.{◌≡◌, ℕ, ◌-◌, ◌==◌, ◌&&◌, ◌||◌, not, nat_eq, Bool, if◌then◌else◌, List, [], ◌∷◌, length, take, drop, slice_index_or, codes, Option, Some}
use Rattle.std.specs.List.{starts_with, suffix_len, flat_map}
use Rattle.mk_form.specs.Joined.{Joined}
use Rattle.mk_text.specs.Lines.{words_of}
use Rattle.mk_tables.specs.TableLines.{Line}

-- a word is its bytes, of which none is a blank
abbrev pub Word : Type 0
Word = List ℕ

-- the line begins `M  V30 `
unfoldable pub is_logical : Line → Bool
is_logical line = starts_with nat_eq line (codes "M  V30 ")

-- a blank or CR
abbrev pub is_blank_or_cr : ℕ → Bool
is_blank_or_cr c = (c == 32) || (c == 13)

-- the bytes without the blanks and the CR bytes at their end
abbrev pub without_last : List ℕ → List ℕ
without_last cells = take (length cells - suffix_len is_blank_or_cr cells) cells

-- what follows `M  V30 `, without the blanks and the CR bytes at its end
unfoldable pub text_behind : Line → List ℕ
text_behind line = without_last (drop 7 line)

-- the last byte is `-`
unfoldable pub ends_with_dash : List ℕ → Bool
ends_with_dash text = slice_index_or text (length text - 1) 0 == 45

-- the line begins `M  V30 `, and the next line goes on with its text
abbrev pub goes_on : Line → Bool
goes_on line = is_logical line && ends_with_dash (text_behind line)

-- the line begins `M  V30 ` and ends a logical line
abbrev pub closes : Line → Bool
closes line = is_logical line && not (ends_with_dash (text_behind line))

-- the text without a `-` at its end
unfoldable pub piece_of : List ℕ → List ℕ
piece_of text = if ends_with_dash text then take (length text - 1) text else text

-- the texts of the lines in one, without the `-` of those that go on
abbrev pub joined_text : List Line → List ℕ
joined_text lines = flat_map (λ line. piece_of (text_behind line)) lines

-- the words of the lines in one
abbrev pub words_in : List Line → List Word
words_in lines = words_of (joined_text lines)

-- lines that all go on but for the last, which ends them; together they have these words
abbrev pub IsLogicalLine : List Line → List Word → Type 0
IsLogicalLine lines words = Joined goes_on closes (λ ls. Some (words_in ls)) lines words
