-- What a connection tells between its transactions, and what a crash leaves.
--     IsSoundState s              the store is clean, the connection is open, and no transaction is
--     told_in s                   the tables of the last commit, where that is so
--     StandsFor trees t           a database of these trees stands for these tables
--     FilesStandFor image t       files of this content do, or hold no database and the tables no
--                                 row
--     StaysSound old new          a sound connection stays one, but for a fault of the disk
--     OnCrash old new batch       a crash leaves the told tables, or what the batch makes of them
--     LeavesNoMore old new        a shut connection leaves no more than it left before
use Rattle.std.specs.Prelude.{◌≡◌, ◌&&◌, ◌⊎◌, ℕ, List, IfSome, nat_eq, Bool, false, not, if◌then◌else◌, Option, Some, None, IsTrue}
use Rattle.sqlite_disk.specs.Disk.{MoreFaults}
use Rattle.sqlite_wal.specs.Recovery.{Image}
use Rattle.sqlite_schema.specs.declared.schema.Schema.{Schema}
use Rattle.sqlite_trees.specs.Tree.{Trees}
use Rattle.sqlite_trees.specs.View.{doubt}
use Rattle.sqlite.specs.Effect.{IsDatabase}
use Rattle.sqlite.specs.Files.{HoldsDatabase}
use Rattle.sqlite.specs.Opening.{HoldsIn}
use Rattle.sqlite.specs.State.{State, HasCleanDisk}
use Rattle.mk_outside.specs.declared.tables.Tables.{Tables}
use Rattle.mk_outside.specs.declared.tables.Change.{Change}
use Rattle.mk_outside.specs.Tables.{no_tables, after_batch}
use Rattle.mk_sqlite.specs.Told.{tables_of}

-- So far the disk has returned what was written, the connection is open, and it is in no
-- transaction.
pub record IsSoundState (s : State) : Type 0 where
  pub clean : HasCleanDisk s
  pub is_open : IsTrue s.is_open
  pub idle : s.in_transaction ≡ false

-- the same as a test, for the told tables
abbrev pub is_sound : State → Bool
is_sound s = nat_eq (doubt s.is_clean) 0 && (s.is_open && not s.in_transaction)

-- a sound connection tells the tables that its last commit stands for, where it stands for some
unfoldable pub told_in : State → Option Tables
told_in s = if is_sound s then tables_of s.committed else None

-- the trees with some schema are a database, which stands for these tables
abbrev pub StandsFor : Trees → Tables → Type 0
StandsFor trees t = (schema : Schema) × IsDatabase (record { schema = schema; trees = trees })
    × (tables_of (record { schema = schema; trees = trees }) ≡ Some t)

-- the bytes of the two files are no database, whatever the size of its pages
abbrev pub HoldNone : Image → Type 0
HoldNone image = (size : ℕ) (db : Trees) → HoldsIn size image db → ⊥

-- The files hold a database that stands for these tables. Where they hold none, as new ones do, the
-- tables have no rows.
abbrev pub FilesStandFor : Image → Tables → Type 0
FilesStandFor image t = ((db : Trees) × HoldsDatabase image db × StandsFor db t) ⊎ (HoldNone image × (t ≡ no_tables))

-- while the store is clean, a sound connection stays sound, unless the disk failed a call
abbrev pub StaysSound : State → State → Type 0
StaysSound old new = IsSoundState old → HasCleanDisk new → IsSoundState new ⊎ MoreFaults old.faults new.faults

-- Where the store is clean and tables were told, each thing that a crash may now leave stands for
-- these tables, or for them as the batch changes them.
abbrev pub OnCrash : State → State → List Change → Type 0
OnCrash old new batch = HasCleanDisk new → IfSome (told_in old)
    (λ t. (db : Trees) → new.may_leave db → StandsFor db t ⊎ StandsFor db (after_batch batch t))

-- Where the store is clean, it was so before, and each thing that a crash may leave after a call on
-- a shut connection is one that it could leave before. So what is true of it, as after the fault
-- that shut the connection, stays true.
abbrev pub LeavesNoMore : State → State → Type 0
LeavesNoMore old new = old.is_open ≡ false → HasCleanDisk new → HasCleanDisk old × ((db : Trees) → new.may_leave db → old.may_leave db)
