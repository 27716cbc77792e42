-- Pending changes: made ready, and not made yet.
--     PendingView                  what is seen of a `Pending`
--     ArePrepared changes mols     the molecules are those of the texts that are put, and the
--                                  numbers can be kept
--     PendingFits library pending  the library can make the change without memory
--     IsOfRecords change           it puts or drops a record
--     RecordsChangeAlone           such changes rest on the records and their next number alone,
--                                  and change nothing else
use Rattle.std.specs.Prelude.{◌≡◌, ◌≤◌, true, List, [], ◌∷◌, All, ◌⊎◌, ⊤}
use Rattle.mk_model.specs.Molecules.{Molecule}
use Rattle.mk_outside.specs.declared.tables.Change.{Change}
use Rattle.mk_outside.specs.declared.tables.Change.TheVariants.{PutRecord, DropRecord, PutQuery, DropQuery, PutCursor, DropCursor}
use Rattle.mk_outside.specs.declared.tables.Tables.{Tables}
use Rattle.mk_outside.specs.Store.{record_puts}
use Rattle.mk_outside.specs.Tables.{after_batch, after_change}
use Rattle.mk_library.specs.Records.{IsMoleculeOf, is_held}
use Rattle.mk_library.specs.Limits.{IsWithinLimits, most_number}
use Rattle.mk_library.specs.Library.{LibraryView, record_tables, tables_of}

-- what is seen of a `Pending`: its changes, and the molecules of the records that they put
pub record PendingView : Type 0 where
  pub changes : List Change
  pub mols : List Molecule

-- the changes are of records, their numbers can be kept, and the molecules are those of the texts
-- that are put, in order
abbrev pub ArePrepared : List Change → List Molecule → Type 0
ArePrepared [] [] = ⊤
ArePrepared [] (mol ∷ mols) = ⊥
ArePrepared (PutRecord number text ∷ changes) (mol ∷ mols) = (number ≤ most_number) × IsMoleculeOf text mol × ArePrepared changes mols
ArePrepared (PutRecord number text ∷ changes) [] = ⊥
ArePrepared (DropRecord number ∷ changes) mols = ArePrepared changes mols
ArePrepared (PutQuery number name text ∷ changes) mols = ⊥
ArePrepared (DropQuery name ∷ changes) mols = ⊥
ArePrepared (PutCursor number name place ∷ changes) mols = ⊥
ArePrepared (DropCursor number ∷ changes) mols = ⊥

-- P holds of each change and of the tables that it is made on, which are those after the changes
-- before it
abbrev pub InTurn : (Change → Tables → Type 0) → List Change → Tables → Type 0
InTurn P [] t = ⊤
InTurn P (change ∷ batch) t = P change t × InTurn P batch (after_change change t)

-- a record is put under a number that is held, or under the next one; a record that is dropped is
-- held
abbrev pub IsNumbered : Change → Tables → Type 0
IsNumbered (PutRecord number text) t = (is_held number t.records ≡ true) ⊎ (number ≡ t.next_record)
IsNumbered (DropRecord number) t = is_held number t.records ≡ true
IsNumbered (PutQuery number name text) t = ⊥
IsNumbered (DropQuery name) t = ⊥
IsNumbered (PutCursor number name place) t = ⊥
IsNumbered (DropCursor number) t = ⊥

-- the records are within the limits after the change
abbrev pub KeepsLimits : Change → Tables → Type 0
KeepsLimits change t = IsWithinLimits (after_change change t).records

-- The numbers are those that the library's records and next number give, the limits are kept, and
-- there is room for what is put.
pub record PendingFits (library : LibraryView) (pending : PendingView) : Type 0 where
  pub numbers : InTurn IsNumbered pending.changes (tables_of library)
  pub limits : InTurn KeepsLimits pending.changes (tables_of library)
  pub room : record_puts pending.changes ≤ library.spare

-- ---- a law

-- the change puts or drops a record
abbrev pub IsOfRecords : Change → Type 0
IsOfRecords (PutRecord number text) = ⊤
IsOfRecords (DropRecord number) = ⊤
IsOfRecords (PutQuery number name text) = ⊥
IsOfRecords (DropQuery name) = ⊥
IsOfRecords (PutCursor number name place) = ⊥
IsOfRecords (DropCursor number) = ⊥

-- what changes of records make of tables: the records and their next number as without queries and
-- cursors, and these stay
abbrev pub RecordsChangeAlone : Type 0
RecordsChangeAlone = (batch : List Change) (t : Tables) → All IsOfRecords batch → after_batch batch t ≡ record t {
  records = (after_batch batch (record_tables t.records t.next_record)).records;
  next_record = (after_batch batch (record_tables t.records t.next_record)).next_record;
}
