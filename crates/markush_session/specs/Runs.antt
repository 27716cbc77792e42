-- What a run of the program leaves, with a store and without one.
--     Outside                         what is told of the files and of the talk, and how many calls
--                                     of the files failed
--     RunsInMemory .., RunsOverStore ..     a run without a store, and what is said of one with a
--                                           store where its keeper isn't handed in
--     Runs path ..                    the one or the other
use Rattle.std.specs.Prelude.{◌≡◌, ◌≢◌, ℕ, List, Option, Some, None, ⊤}
use Rattle.mk_outside.specs.declared.tables.Tables.{Tables}
use Rattle.mk_outside.specs.Tables.{no_tables}
use Rattle.mk_session.specs.declared.status.Status.{Status}
use Rattle.mk_session.specs.declared.status.Status.TheVariants as status
use Rattle.mk_found.specs.Files.{Look}
use Rattle.mk_talk.specs.declared.event.Event.{Event}
use Rattle.mk_talk.specs.Speaks.{Speaks}

-- what is told of the files and of the talk, and how many calls of the files failed
pub record Outside : Type 0 where
  pub files : Option Look
  pub history : Option (List Event)
  pub files_faults : ℕ

-- a run over a keeper of which this is told at first and at the end, and of which so many calls
-- failed
abbrev pub SpeaksOver : Type 0 → List (List ℕ) → Outside → Outside → Option Tables → Option Tables → ℕ → ℕ → Status → Type 0
SpeaksOver sound words old new told told' k k' ends =
    Speaks sound words old.files told told' old.history new.history old.files_faults new.files_faults k k' ends

-- a run over tables in memory, which are empty at first and never fail
pub record RunsInMemory (words : List (List ℕ)) (old new : Outside) (ends : Status) : Type 0 where
  pub left : Tables
  pub run : SpeaksOver ⊤ words old new (Some no_tables) (Some left) 0 0 ends
  pub no_store : ends ≢ status.Store

-- A run over the tables of a file: it went as a run from some tables, and so many calls of its keeper
-- failed. Which tables these are, and which keeper told them, isn't said here: the keeper is made and
-- let go within. `run_over`, to which it is handed, says it.
pub record RunsOverStore (words : List (List ℕ)) (old new : Outside) (ends : Status) : Type 0 where
  pub faults : ℕ
  pub run : SpeaksOver ⊤ words old new None None 0 faults ends

-- a run over the store of the path, where there is one
abbrev pub Runs : Option (List ℕ) → List (List ℕ) → Outside → Outside → Status → Type 0
Runs None words old new ends = RunsInMemory words old new ends
Runs (Some path) words old new ends = RunsOverStore words old new ends
