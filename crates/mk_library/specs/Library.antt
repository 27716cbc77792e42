-- What a library stands for.
--     LibraryView                  what is seen of a `Library`
--     IsLibrary library            what every `Library` keeps
--     tables_of library            its record rows and next number, as tables without queries and
--                                  cursors
--     IsSame a b                   two libraries hold the same, whatever room they have
--     HaveSamePostings a b         each bit has one list of numbers in both
--     IsLeastHeld from records n   the number is the least that is held, from there on
--     NoneHeld from records        from there on none is held
use Rattle.std.specs.Prelude.{◌≡◌, ◌↔◌, ℕ, ◌<◌, ◌≤◌, true, false, List}
use Rattle.std.specs.List.{AllByRecursion}
use Rattle.mk_index.specs.Postings.{IsPosting}
use Rattle.mk_rows.specs.Rows.{IsRising}
use Rattle.mk_rows.specs.declared.by_number.Numbered.{Numbered}
use Rattle.mk_model.specs.Molecules.{Molecule}
use Rattle.mk_outside.specs.declared.tables.RecordRow.{RecordRow}
use Rattle.mk_outside.specs.declared.tables.Tables.{Tables}
use Rattle.mk_outside.specs.Tables.{no_tables}
use Rattle.mk_library.specs.Records.{AreHeld, AreRising, is_held, records_of, text_bytes}
use Rattle.mk_library.specs.Limits.{IsWithinLimits}

-- what is seen of a `Library`: its records, their molecules, the number that comes next, and how
-- many more records it counts on room for
pub record LibraryView : Type 0 where
  pub records : List RecordRow
  pub rows : List (Numbered Molecule)
  pub next_record : ℕ
  pub spare : ℕ

-- the records rise and are below the next number and within the limits, and each molecule is the
-- filled one of its text
pub record IsLibrary (library : LibraryView) : Type 0 where
  pub rising : AreRising library.records
  pub below_next : AllByRecursion (λ (row : RecordRow). row.number < library.next_record) library.records
  pub limits : IsWithinLimits library.records
  pub held : AreHeld library.records library.rows

-- records and their next number, as tables without queries and cursors
abbrev pub record_tables : List RecordRow → ℕ → Tables
record_tables records next = record no_tables { records = records; next_record = next }

-- the library's records and next number, as tables
abbrev pub tables_of : LibraryView → Tables
tables_of library = record_tables library.records library.next_record

-- two libraries hold the same records with the same molecules, and their next numbers are one
pub record IsSame (a b : LibraryView) : Type 0 where
  pub records : b.records ≡ a.records
  pub rows : b.rows ≡ a.rows
  pub next_record : b.next_record ≡ a.next_record

-- a list of numbers is the posting of a bit in one library exactly where it is that in the other
abbrev pub HaveSamePostings : LibraryView → LibraryView → Type 0
HaveSamePostings a b = (bit : ℕ) (numbers : List ℕ) → IsPosting a.rows bit numbers ↔ IsPosting b.rows bit numbers

-- the number is the least that is held and not below `from`
pub record IsLeastHeld (from : ℕ) (records : List RecordRow) (n : ℕ) : Type 0 where
  pub held : is_held n records ≡ true
  pub not_below : from ≤ n
  pub least : (other : ℕ) → from ≤ other → is_held other records ≡ true → n ≤ other

-- no number is held that isn't below `from`
abbrev pub NoneHeld : ℕ → List RecordRow → Type 0
NoneHeld from records = (n : ℕ) → from ≤ n → is_held n records ≡ false

-- ---- for the code

-- what a `Library` keeps of its parts: the bytes of its texts are counted
pub record IsKept (texts : List (Numbered (List ℕ))) (rows : List (Numbered Molecule)) (bytes next : ℕ) : Type 0 where
  pub rising : IsRising texts
  pub below_next : AllByRecursion (λ (row : RecordRow). row.number < next) (records_of texts)
  pub limits : IsWithinLimits (records_of texts)
  pub held : AreHeld (records_of texts) rows
  pub counted : bytes ≡ text_bytes (records_of texts)

-- there is room for so many more, among the texts and on the shelf
pub record HasRoom (texts shelf room : ℕ) : Type 0 where
  pub in_texts : room ≤ texts
  pub on_shelf : room ≤ shelf
