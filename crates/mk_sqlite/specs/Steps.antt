-- What a statement does within a transaction. It serves code alone.
--     HasTables stage db           so many of the tables are there
--     AreShaped, HaveSameRows      their rows stand in order; they are the same as before
--     IsAt stage db t              so many of the tables are there, and hold these
--     Inside old new result P      a step within a transaction: nothing is committed, and P holds
--                                  of what is answered
--     Moves from to old new        tables were made, from the one number of them to the other
--     Loads old loaded             what was loaded are the tables that were there
--     Changes old new f            the rows of all four tables are changed so
--     Leaves old new f             the same, where not all tables were there before
--     Ends old new result          how a transaction ends: with a commit, or undone
use Rattle.std.specs.Prelude.{◌≡◌, Result, Ok, Err, IfOk, IsTrue}
use Rattle.sqlite_trees.specs.declared.store.Shape.TheVariants.{Table}
use Rattle.sqlite_trees.specs.Tree.{Trees}
use Rattle.sqlite_trees.specs.View.{IsShaped}
use Rattle.sqlite.specs.Effect.{Database, IsDatabase}
use Rattle.sqlite.specs.State.{State, HasCleanDisk, KeepsCommit}
use Rattle.mk_outside.specs.declared.tables.Tables.{Tables}
use Rattle.mk_sqlite.specs.Layout.{Stage, no_table, one_table, two_tables, three_tables, all_tables, schema_at}
use Rattle.mk_sqlite.specs.Told.{IsTold, records_at, queries_at, cursors_at, nexts_at}

-- the database has so many of the tables, and is sound
pub record HasTables (stage : Stage) (db : Database) : Type 0 where
  pub schema : db.schema ≡ schema_at stage
  pub sound : IsDatabase db

-- the rows of each of the tables stand in order, as those of a tree do
pub record AreShaped (stage : Stage) (db : Trees) : Type 0 where
  pub records : IsShaped Table (records_at stage db)
  pub queries : IsShaped Table (queries_at stage db)
  pub cursors : IsShaped Table (cursors_at stage db)
  pub nexts : IsShaped Table (nexts_at stage db)

-- the rows of each of the tables are the same, where one that isn't there has none
pub record HaveSameRows (before : Stage) (old : Trees) (after : Stage) (new : Trees) : Type 0 where
  pub records : records_at after new ≡ records_at before old
  pub queries : queries_at after new ≡ queries_at before old
  pub cursors : cursors_at after new ≡ cursors_at before old
  pub nexts : nexts_at after new ≡ nexts_at before old

-- the database has so many of the tables, is sound, and stands for these rows
pub record IsAt (stage : Stage) (db : Database) (t : Tables) : Type 0 where
  pub schema : db.schema ≡ schema_at stage
  pub sound : IsDatabase db
  pub told : IsTold stage db.trees t

-- all four tables are there, and the database stands for these rows
abbrev pub IsWhole : Database → Tables → Type 0
IsWhole = IsAt all_tables

-- Where the store is clean, nothing is committed, and what is answered finds the transaction open
-- and has P.
abbrev pub Inside : {A E : Type 0} → State → State → Result A E → (A → Type 0) → Type 0
Inside old new result P =
    HasCleanDisk new → IsTrue old.in_transaction → KeepsCommit old new × IfOk result (λ a. IsTrue new.in_transaction × P a)

-- whatever the tables are, they are changed so
abbrev pub Changes : State → State → (Tables → Tables) → Type 0
Changes old new f = (t : Tables) → IsWhole old.now t → IsWhole new.now (f t)

-- the stage once one table is there at least
abbrev pub with_one : Stage → Stage
with_one no_table = one_table
with_one stage = stage

-- the stage once two tables are there at least
abbrev pub with_two : Stage → Stage
with_two no_table = two_tables
with_two one_table = two_tables
with_two stage = stage

-- the stage once three tables are there at least
abbrev pub with_three : Stage → Stage
with_three no_table = three_tables
with_three one_table = three_tables
with_three two_tables = three_tables
with_three stage = stage

-- the stage once all tables are there
abbrev pub with_all : Stage → Stage
with_all stage = all_tables

-- from the one number of tables to the other, with the rows as they are, whatever they say
abbrev pub Moves : (Stage → Stage) → (Stage → Stage) → Database → Database → Type 0
Moves from to old new =
    (stage : Stage) → HasTables (from stage) old → HasTables (to stage) new × HaveSameRows (from stage) old.trees (to stage) new.trees

-- all four tables are there afterwards, and hold what f makes of the rows
abbrev pub Leaves : Database → Database → (Tables → Tables) → Type 0
Leaves old new f = (stage : Stage) (t : Tables) → IsAt stage old t → IsWhole new (f t)

-- however many of the tables were there, they hold what was loaded where their rows stand in order
abbrev pub Loads : Database → Tables → Type 0
Loads old loaded = (stage : Stage) → HasTables stage old → AreShaped stage old.trees → IsTold stage old.trees loaded

-- the last commit is what the transaction saw, or after a failure what it was
abbrev pub Ends : {A E : Type 0} → State → State → Result A E → Type 0
Ends old new (Ok a) = IsTrue new.is_open → IsTrue old.is_open × (new.committed ≡ old.now)
Ends old new (Err e) = IsTrue new.is_open → IsTrue old.is_open × (new.committed ≡ old.committed)
