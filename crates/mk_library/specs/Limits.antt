-- How much a library may hold.
--     file_bytes                   how many bytes a molecules' file may have
--     IsWithinLimits records       few records, few bytes of text, and no number too great
use Rattle.std.specs.Prelude.{ℕ, ◌≤◌, List, length}
use Rattle.std.specs.List.{AllByRecursion}
use Rattle.mk_outside.specs.declared.tables.RecordRow.{RecordRow}
use Rattle.mk_library.specs.Records.{text_bytes}

-- how many bytes a molecules' file may have
abbrev pub file_bytes : ℕ
file_bytes = 67108864

-- how many records a library may hold
abbrev pub most_records : ℕ
most_records = 100000

-- how many bytes of text the records of a library may have together
abbrev pub most_bytes : ℕ
most_bytes = 134217728

-- the greatest number that a record may have
abbrev pub most_number : ℕ
most_number = 999999999

-- the number of the record is at most 999,999,999
abbrev pub HasKnownNumber : RecordRow → Type 0
HasKnownNumber row = row.number ≤ most_number

-- at most 100,000 records with 134,217,728 bytes of text together, and no number above 999,999,999
pub record IsWithinLimits (records : List RecordRow) : Type 0 where
  pub few : length records ≤ most_records
  pub short : text_bytes records ≤ most_bytes
  pub numbers : AllByRecursion HasKnownNumber records
