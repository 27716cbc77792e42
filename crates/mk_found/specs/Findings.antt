-- What a command comes to, found before anything is changed: what its parts promise, and what the
-- session builds on.
--     stands_for library saved     the tables of a library, of queries and of saved searches
--     effect_of found              what was found, as the effect that it is
--     FoundFits library saved found      its change can be made without memory
--     SeeksSo ..                   what was found, with the count of the files' faults
--     MissesAt ..                  the count of absences
use Rattle.std.specs.Prelude.{◌≡◌, ℕ, ◌≤◌, List, [], Option, Result, Ok, Err, ⊤}
use Rattle.mk_outside.specs.Counts.{Rose}
use Rattle.mk_outside.specs.declared.tables.Tables.{Tables}
use Rattle.mk_outside.specs.declared.tables.Change.{Change}
use Rattle.mk_found.specs.declared.effect.Found.{Found}
use Rattle.mk_found.specs.declared.effect.Found.TheVariants as found
use Rattle.mk_found.specs.declared.effect.StepFail.{StepFail}
use Rattle.mk_found.specs.declared.effect.StepFail.TheVariants as fail
use Rattle.mk_found.specs.declared.effect.SessionEdit.{SessionEdit}
use Rattle.mk_found.specs.declared.effect.SessionEdit.TheVariants as edit
use Rattle.mk_library.specs.Library.{LibraryView}
use Rattle.mk_library.specs.Pending.{PendingFits}
use Rattle.mk_kept.specs.Saved.{SavedView}
use Rattle.mk_kept.specs.SavedPending.{SavedFits}
use Rattle.mk_found.specs.Effects.{Answers, Effect, Refuses}
use Rattle.mk_found.specs.Files.{IsThere, Look}

-- the changes that an edit stands for
abbrev pub changes_of : SessionEdit → List Change
changes_of edit.Unchanged = []
changes_of (edit.OfRecords pending) = pending.changes
changes_of (edit.OfSaved pending) = pending.changes

-- what was found, as the effect that it is
abbrev pub effect_of : Found → Effect
effect_of (found.Refused line) = Refuses line
effect_of (found.Answered change text) = Answers (changes_of change) text

-- the tables of a library, of queries and of saved searches
abbrev pub stands_for : LibraryView → SavedView → Tables
stands_for library saved = record {
  records = library.records;
  queries = saved.queries;
  cursors = saved.cursors;
  next_record = library.next_record;
  next_cursor = saved.next_cursor;
}

-- the session can make the edit without memory
abbrev pub EditFits : LibraryView → SavedView → SessionEdit → Type 0
EditFits library saved edit.Unchanged = ⊤
EditFits library saved (edit.OfRecords pending) = PendingFits library pending
EditFits library saved (edit.OfSaved pending) = SavedFits saved pending

abbrev pub FoundFits : LibraryView → SavedView → Found → Type 0
FoundFits library saved (found.Refused line) = ⊤
FoundFits library saved (found.Answered change text) = EditFits library saved change

-- it is some file's turn
pub record IsReached (Turn : List ℕ → Type 0) : Type 0 where
  pub name : List ℕ
  pub reaches : Turn name

-- what a command comes to, found before anything is changed, with the count of the files
abbrev pub SeeksSo : (Effect → Type 0) → (List ℕ → Type 0) → ℕ → ℕ → Result Found StepFail → Type 0
SeeksSo Comes Turn old new (Ok result) = Comes (effect_of result) × (new ≡ old)
SeeksSo Comes Turn old new (Err fail.Read) = IsReached Turn × Rose old new
SeeksSo Comes Turn old new (Err fail.Store) = ⊥
SeeksSo Comes Turn old new (Err fail.Memory) = new ≡ old

-- the count of absences stays where each file is there whose turn comes
pub record MissesAt (files : Option Look) (Turn : List ℕ → Type 0) (old new : ℕ) : Type 0 where
  pub never_falls : old ≤ new
  pub absent : ((name : List ℕ) → Turn name → IsThere files name) → new ≡ old
