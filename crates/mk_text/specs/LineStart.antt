-- Where the lines of a text begin.
--     IsLineStart text start      a line of the text begins there, or its end is there
--     BeginLines text spans       each part begins where the line of its number does
use Rattle.std.specs.Prelude.{◌≡◌, ℕ, ◌≤◌, ◌<◌, ◌==◌, false, List, length, drop, slice_index, slice_index_or}
use Rattle.mk_text.specs.declared.cutting.Span.{Span}
use Rattle.mk_text.specs.declared.line_start.LineStart.{LineStart}
use Rattle.mk_text.specs.Lines.{lines_of}

-- So many lines stand before the byte, and those from it on are the others.
pub record IsLineStart (text : List ℕ) (start : LineStart) : Type 0 where
  pub inside : start.byte ≤ length text
  pub counted : start.line ≤ length (lines_of text)
  -- each line before it has a byte, if only its LF
  pub few : start.line ≤ start.byte
  pub behind : lines_of (drop start.byte text) ≡ drop start.line (lines_of text)

-- each part begins where the line of its number does; lines count from 0 here
abbrev pub BeginLines : List ℕ → List Span → Type 0
BeginLines text spans = (k : ℕ) (d : Span) → k < length spans → IsLineStart text (record { line = k; byte = (slice_index_or spans k d).from })

-- no LF, byte 10, stands between two places
abbrev pub NoLfBetween : List ℕ → ℕ → ℕ → Type 0
NoLfBetween text start end = (k : ℕ) → start ≤ k → k < end → (slice_index text k == 10) ≡ false
