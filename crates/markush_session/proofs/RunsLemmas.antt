-- A run over a keeper as a run over a store.
--     over_store      what is said of the tables that the keeper tells is left out
use Rattle.std.proofs.Common.{◌≡◌, ℕ, List, Option, Some, None, subst}
use Rattle.std.specs.Prelude.{⊤}
use Rattle.mk_outside.specs.declared.tables.Tables.{Tables}
use Rattle.mk_session.specs.declared.status.Status.{Status}
use Rattle.markush_session.specs.Runs.{Outside, RunsOverStore, SpeaksOver}

-- what is said of the told tables is left out
untold : (sound : Type 0) (words : List (List ℕ)) (old new : Outside) (told told' : Option Tables) (k k' : ℕ) (ends : Status)
    → SpeaksOver sound words old new told told' k k' ends → SpeaksOver ⊤ words old new None None k k' ends
untold sound words old new told told' k k' ends s = record {
  t = s.t;
  left = s.left;
  events = s.events;
  tables_told = λ _. tt;
  kept = λ _. tt;
  grew = s.grew;
  spoke_so = s.spoke_so;
}

-- a run over a keeper that is new is one over a store
pub over_store : (sound : Type 0) (words : List (List ℕ)) (old new : Outside) (first last : Option Tables) (count faults : ℕ) (ends : Status) → count ≡ 0
    → SpeaksOver sound words old new first last count faults ends → RunsOverStore words old new ends
over_store sound words old new first last count faults ends zero s = record {
  faults = faults;
  run = subst (λ n. SpeaksOver ⊤ words old new None None n faults ends) zero (untold sound words old new first last count faults ends s);
}
