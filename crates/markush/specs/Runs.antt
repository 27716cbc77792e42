-- What a run of the program leaves, with a store and without one.
--     Outside                         what is told of files, input and output, and how many of
--                                     their calls failed
--     RunsInMemory .., RunsOverStore ..     a run without a store, and what is said of one with a
--                                           store where its keeper isn't handed in
--     Runs path ..                    the one or the other
use Rattle.std.specs.Prelude.{◌≡◌, ◌≢◌, ℕ, List, Option, Some, None, ⊤}
use Rattle.mk_outside.specs.declared.tables.Tables.{Tables}
use Rattle.mk_outside.specs.Tables.{no_tables}
use Rattle.mk_session.specs.declared.status.Status.{Status}
use Rattle.mk_session.specs.declared.status.Status.TheVariants as status
use Rattle.mk_found.specs.Files.{Look}
use Rattle.mk_session.specs.Headline.{Headline}
use Rattle.mk_session.specs.Outcomes.{World}

-- what is told of files, input and output, how many of their calls failed, and how many on a name
-- that isn't there
pub record Outside : Type 0 where
  pub files : Option Look
  pub input : Option (List ℕ)
  pub output : Option (List ℕ)
  pub files_faults : ℕ
  pub input_faults : ℕ
  pub output_faults : ℕ
  pub absences : ℕ

-- what is told of files, input and output, with a keeper of which this is told, and of which so
-- many calls failed
abbrev pub with_keeper : Outside → Option Tables → ℕ → World
with_keeper outside tables faults = record {
  files = outside.files;
  input = outside.input;
  output = outside.output;
  tables = tables;
  faults = record { files = outside.files_faults; output = outside.output_faults; keeper = faults };
  input_faults = outside.input_faults;
  absences = outside.absences;
}

-- a run over tables in memory, which are empty at first and never fail
pub record RunsInMemory (words : List (List ℕ)) (old new : Outside) (ends : Status) : Type 0 where
  pub left : Tables
  pub run : Headline ⊤ words (with_keeper old (Some no_tables) 0) (with_keeper new (Some left) 0) ends
  pub no_store : ends ≢ status.Store

-- A run over the tables of a file: it went as a run from some tables, and so many calls of its keeper
-- failed. Which tables these are, and which keeper told them, isn't said here: the keeper is made and
-- let go within. `run_over`, to which it is handed, says it.
pub record RunsOverStore (words : List (List ℕ)) (old new : Outside) (ends : Status) : Type 0 where
  pub faults : ℕ
  pub run : Headline ⊤ words (with_keeper old None 0) (with_keeper new None faults) ends

-- a run over the store of the path, where there is one
abbrev pub Runs : Option (List ℕ) → List (List ℕ) → Outside → Outside → Status → Type 0
Runs None words old new ends = RunsInMemory words old new ends
Runs (Some path) words old new ends = RunsOverStore words old new ends
