-- What the readers of an SDfile answer that go from one line to the next. It serves their code
-- alone.
--     AnswersFirst lines at answer       the number of the first line that isn't blank, from the
--                                        line of index `at` on
--     IsDataEnd text at found            where the data lines from the line of index `at` on end
--     AnswersBlock text at answer        the record of the block that begins there, and where the
--                                        next block begins
use Rattle.std.specs.Prelude.{◌≡◌, ℕ, ◌+◌, ◌≤◌, ◌<◌, true, false, List, [], ◌∷◌, length, drop, slice_index_or, slice_range, Option, Some, None, MatchOption, Result, Ok, Err}
use Rattle.mk_form.specs.Reading.{Took, StopsAtLine, and_then}
use Rattle.mk_form.specs.ToEnd.{EachIs, read_all}
use Rattle.mk_text.specs.declared.line_start.LineStart.{LineStart}
use Rattle.mk_text.specs.Columns.{are_blank}
use Rattle.mk_text.specs.Lines.{lines_of}
use Rattle.mk_text.specs.LineStart.{IsLineStart}
use Rattle.mk_tables.specs.declared.fault.TableFault.{TableFault}
use Rattle.mk_tables.specs.TableLines.{Line}
use Rattle.mk_tables.specs.TableReading.{Fails}
use Rattle.mk_sdfile.specs.declared.raw_record.RawRecord.{RawRecord}
use Rattle.mk_sdfile.specs.declared.sdfile.DataEnd.{DataEnd}
use Rattle.mk_sdfile.specs.Sdfile.{is_separator}
use Rattle.mk_sdfile.specs.SdfileReading.{block_part, sdfile_part, sdfile_at}

-- all lines are blank, or the first that isn't has this number
abbrev pub AnswersFirst : List Line → ℕ → Option ℕ → Type 0
AnswersFirst lines at None = read_all are_blank (drop at lines) ≡ Took tt []
AnswersFirst lines at (Some k) = StopsAtLine lines false k (read_all are_blank (drop at lines))

-- the line of index `end` is a separator, and the next one begins there
pub record IsSeparatorAt (text : List ℕ) (end : ℕ) (next : LineStart) : Type 0 where
  pub there : end < length (lines_of text)
  pub separates : is_separator (slice_index_or (lines_of text) end []) ≡ true
  pub behind : next.line ≡ end + 1
  pub start : IsLineStart text next

-- from the line of index `at` on no line is a separator, up to the one where the data lines end;
-- that one is, or none is left
pub record IsDataEnd (text : List ℕ) (at : ℕ) (found : DataEnd) : Type 0 where
  pub order : at ≤ found.end.line
  pub start : IsLineStart text found.end
  pub no_separator : EachIs is_separator false (slice_range (lines_of text) at found.end.line)
  pub next : MatchOption found.next (found.end.line ≡ length (lines_of text)) (IsSeparatorAt text found.end.line)

-- one record, and the next block begins there
pub record TakesBlock (text : List ℕ) (at : ℕ) (r : RawRecord) (next : LineStart) : Type 0 where
  pub start : IsLineStart text next
  pub ahead : at < next.line
  -- the first line that isn't blank is one of the block's
  pub not_blank : (k : ℕ) → StopsAtLine (lines_of text) false k (read_all are_blank (drop at (lines_of text))) → k ≤ next.line
  pub took : (block_part sdfile_part).read (drop at (lines_of text)) ≡ and_then (sdfile_at (drop next.line (lines_of text))) (λ records. Took (r ∷ records))

-- one record was taken and the next block begins there, or the record is the last, or the block has
-- this fault
abbrev pub AnswersBlock : List ℕ → ℕ → Result (RawRecord × Option LineStart) TableFault → Type 0
AnswersBlock text at (Ok answer) =
    MatchOption answer.1 ((block_part sdfile_part).read (drop at (lines_of text)) ≡ Took (answer.0 ∷ []) []) (TakesBlock text at answer.0)
AnswersBlock text at (Err fault) = Fails (lines_of text) fault ((block_part sdfile_part).read (drop at (lines_of text)))
