-- Stored rows after an edit: two laws.
--     ReadOn next rows         each row reads, and the next number is at least 1
--     EditsKeepReading         an edit that is allowed leaves rows that read
--     EditsAreOfRecords        it puts and drops records alone
use Rattle.std.specs.Prelude.{ℕ, ◌≤◌, List, All}
use Rattle.mk_outside.specs.declared.tables.Change.{Change}
use Rattle.mk_outside.specs.declared.tables.RecordRow.{RecordRow}
use Rattle.mk_outside.specs.declared.tables.Tables.{Tables}
use Rattle.mk_outside.specs.Tables.{after_batch}
use Rattle.mk_library.specs.Edits.{Edit}
use Rattle.mk_library.specs.FirstRefusal.{IsAllowedEdit}
use Rattle.mk_library.specs.Pending.{IsOfRecords}
use Rattle.mk_library.specs.StoredRows.{AllRead}

-- each row reads, and the next number is at least 1, so that a row that is put under it reads too
pub record ReadOn (next : ℕ) (rows : List RecordRow) : Type 0 where
  pub read : AllRead next rows
  pub least : 1 ≤ next

-- an edit that is allowed leaves rows that read, where those before it did and their next number
-- was at least 1
abbrev pub EditsKeepReading : Type 0
EditsKeepReading = (t : Tables) (edit : Edit) (changes : List Change) → ReadOn t.next_record t.records → IsAllowedEdit t.records t.next_record edit changes
    → ReadOn (after_batch changes t).next_record (after_batch changes t).records

-- the changes of an edit that is allowed are of records
abbrev pub EditsAreOfRecords : Type 0
EditsAreOfRecords = (records : List RecordRow) (next : ℕ) (edit : Edit) (changes : List Change) → IsAllowedEdit records next edit changes → All IsOfRecords changes
