-- Query files whose text can be kept: the lines without the CR bytes at their ends are the same
-- query file.
--     IsKeptText text               the text is lines that hold no LF and don't end with CR, each
--                                   with LF behind it
--     KeepsItsTexts query           each table of the query keeps its text
--     KeptLinesAreTheQuery          the law, for a whole list of lines
--     KeptLinesAreKept, KeptTextStays       and two of kept texts
use Rattle.std.specs.Prelude.{◌≡◌, ◌↔◌, ℕ, List, map, All}
use Rattle.mk_text.specs.KeptLines.{kept_lines, without_crs}
use Rattle.mk_text.specs.Lines.{IsWholeLine, lines_of, text_of}
use Rattle.mk_tables.specs.KeptTables.{KeepsItsText}
use Rattle.mk_tables.specs.TableLines.{Line}
use Rattle.mk_rgfile.specs.declared.raw_query.RawQuery.{RawQuery}
use Rattle.mk_rgfile.specs.QueryFile.{IsQueryFile}

-- each line of the text ends with LF and without CR
pub record IsKeptText (text : List ℕ) : Type 0 where
  pub lines : List Line
  pub whole : All IsWholeLine lines
  pub is : text ≡ text_of lines

-- no atom symbol, no symbol of an `M  ALS` and no range text ends with CR, in the root and in every
-- member
pub record KeepsItsTexts (query : RawQuery) : Type 0 where
  pub root : KeepsItsText query.root
  pub members : All (λ group. All KeepsItsText group.members) query.groups

-- ---- laws

-- the lines of a query file whose tables keep their text are, without the CR bytes at their ends,
-- the same query file
abbrev pub KeptLinesAreTheQuery : Type 0
KeptLinesAreTheQuery = (lines : List Line) (query : RawQuery) → IsQueryFile lines query → KeepsItsTexts query → IsQueryFile (map without_crs lines) query

-- the kept lines of a text end with LF and without CR
abbrev pub KeptLinesAreKept : Type 0
KeptLinesAreKept = (text : List ℕ) → IsKeptText (kept_lines (lines_of text))

-- each line of a text ends with LF and without CR exactly where its kept lines are that text
abbrev pub KeptTextStays : Type 0
KeptTextStays = (text : List ℕ) → IsKeptText text ↔ (kept_lines (lines_of text) ≡ text)
