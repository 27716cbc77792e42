-- Two runs over one file, of which the second opens what the first left.
--     Ran ..                  a run of a script, in which no call failed and memory sufficed
--     IsOneRun .., GoesOn ..  what was written and told is that of one run
--     RunsOfOneFile           a law: such two runs are one run of both scripts
--     CutRunGoesOn            a law: where the first is cut as a command is committed, the two are one
--                             run of the commands before it, with that command or without it, and of
--                             the second script
use Rattle.std.specs.Prelude.{◌≡◌, ◌≢◌, ◌⊎◌, ℕ, ◌≤◌, List, [], ◌∷◌, ◌++◌, length, Option, Some}
use Rattle.sqlite_disk.specs.declared.Disk.{Ghosts}
use Rattle.sqlite_wal.specs.Recovery.{Image}
use Rattle.sqlite_store.specs.declared.store.FileStore.{FileStore}
use Rattle.sqlite.specs.State.{HasCleanDisk}
use Rattle.sqlite.specs.Held.{Held}
use Rattle.sqlite.specs.Files.{file_state}
use Rattle.mk_text.specs.Lines.{lines_of}
use Rattle.mk_outside.specs.declared.tables.Tables.{Tables}
use Rattle.mk_outside.specs.declared.tables.Change.{Change}
use Rattle.mk_sqlite.specs.Keeps.{IsSoundState, told_in, OnCrash}
use Rattle.mk_sqlite.specs.Restart.{IsUpheld, MayHold, IsOpenedOver}
use Rattle.mk_words.specs.Commands.{kind_of_words}
use Rattle.mk_words.specs.declared.command.WordsKind.TheVariants as words_kind
use Rattle.mk_kept.specs.StoredRows.{CanGoOn}
use Rattle.mk_found.specs.Effects.{Effect, Answers}
use Rattle.mk_found.specs.Files.{Look}
use Rattle.mk_session.specs.declared.status.Status.{Status}
use Rattle.mk_session.specs.declared.status.Status.TheVariants as status
use Rattle.mk_session.specs.Orders.{Order, Orders, asked_of_script, orders_of, script_bytes}
use Rattle.mk_session.specs.Run.{Does, IsRun, after_effects, status_behind, texts}
use Rattle.mk_session.specs.Step.{Comes}
use Rattle.mk_session.specs.Outcomes.{IsQuiet, World}
use Rattle.mk_session.specs.Headline.{Headline}
use Rattle.mk_laws.specs.Laws.{joined}

-- A run of this script, in which no call failed and memory sufficed, by the statement of each run. The
-- keeper told the one tables at first and the other at the end, and what was written grew from the one
-- text to the other.
pub record Ran (sound : Type 0) (files : Option Look) (script : List ℕ) (told told' : Option Tables) (so_far so_far' : List ℕ) (ends : Status) : Type 0 where
  pub words : List (List ℕ)
  pub old : World
  pub new : World
  pub headline : Headline sound words old new ends
  pub is_script : kind_of_words words ≡ words_kind.Script
  pub input : old.input ≡ Some script
  pub look : old.files ≡ files
  pub tables : old.tables ≡ told
  pub tables_left : new.tables ≡ told'
  pub written : old.output ≡ Some so_far
  pub written_left : new.output ≡ Some so_far'
  pub quiet : IsQuiet old new
  pub sufficed : ends ≢ status.Memory

-- what the one run wrote, and the other behind it, is what one run of this script writes, and the tables
-- that are told at last are those that it leaves
pub record IsOneRun (files : Option Look) (t : Tables) (script : List ℕ) (so_far so_far' next next' : List ℕ) (told : Option Tables) (ends : Status) : Type 0 where
  pub added : List ℕ
  pub behind : List ℕ
  pub left : Tables
  pub run : IsRun files t (asked_of_script script) (added ++ behind) left ends
  pub added_first : so_far' ≡ so_far ++ added
  pub added_then : next' ≡ next ++ behind
  pub left_is_told : told ≡ Some left

-- Two runs of scripts, of which the first ends with LF. The second opens whatever the files of the
-- first are left with. Then they are one run of the two scripts in one. The premises are: the rows
-- read at first, both keepers are sound, and what the toolchain's connections keep true of themselves.
abbrev pub RunsOfOneFile : {D E : Type 0} → Ghosts D → Ghosts E → Type 0
RunsOfOneFile {D} {E} g h =
    (c : Held (FileStore D g)) (image : Image) (later last : Held (FileStore E h))
    (files : Option Look) (t : Tables) (first second so_far so_far' next next' : List ℕ) (ends ends' : Status) → CanGoOn t
    → Ran (IsSoundState (file_state c)) files (first ++ 10 ∷ []) (Some t) (told_in (file_state c)) so_far so_far' ends
    → IsUpheld c → IsSoundState (file_state c) → MayHold c image → IsOpenedOver image later → IsSoundState (file_state later)
    → Ran (IsSoundState (file_state last)) files second (told_in (file_state later)) (told_in (file_state last)) next next' ends' → IsSoundState (file_state last)
    → length ((first ++ 10 ∷ []) ++ second) ≤ script_bytes
    → IsOneRun files t ((first ++ 10 ∷ []) ++ second) so_far so_far' next next' (told_in (file_state last)) (joined ends ends')

-- behind orders that came to these effects, what the run of this script wrote, left and ended with is
-- what one run of all of them does
pub record GoesOn (files : Option Look) (t : Tables) (done : List Order) (effects : List Effect) (script next next' : List ℕ) (told : Option Tables) (ends : Status) : Type 0 where
  pub behind : List ℕ
  pub left : Tables
  pub run : IsRun files t (Orders (done ++ orders_of (lines_of script))) (texts effects ++ behind) left (joined (status_behind effects) ends)
  pub added_then : next' ≡ next ++ behind
  pub left_is_told : told ≡ Some left

-- The first script's orders were done up to one whose batch was being committed when the disk failed or
-- the power went. The second run opens whatever the files are left with. Then the two are one run of the
-- orders that were done, with that one or without it, and of the second script.
abbrev pub CutRunGoesOn : {D E : Type 0} → Ghosts D → Ghosts E → Type 0
CutRunGoesOn {D} {E} g h =
    (old c : Held (FileStore D g)) (image : Image) (later last : Held (FileStore E h))
    (files : Option Look) (t : Tables) (first : List ℕ) (done others : List Order) (order : Order) (effects : List Effect) (batch : List Change) (text : List ℕ)
    (second next next' : List ℕ) (ends : Status) → CanGoOn t
    → orders_of (lines_of first) ≡ done ++ order ∷ others → Does files t done effects → Comes files (after_effects effects t) order (Answers batch text)
    → told_in (file_state old) ≡ Some (after_effects effects t) → OnCrash (file_state old) (file_state c) batch
    → IsUpheld c → HasCleanDisk (file_state c) → MayHold c image → IsOpenedOver image later → IsSoundState (file_state later)
    → Ran (IsSoundState (file_state last)) files second (told_in (file_state later)) (told_in (file_state last)) next next' ends → IsSoundState (file_state last)
    → length second ≤ script_bytes
    → ∥ GoesOn files t done effects second next next' (told_in (file_state last)) ends
    ⊎ GoesOn files t (done ++ order ∷ []) (effects ++ Answers batch text ∷ []) second next next' (told_in (file_state last)) ends ∥₁
