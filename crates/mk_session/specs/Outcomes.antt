-- The parts of the statement that the program stands on.
--     World                                               what is told of the objects, and how many
--                                                         of their calls failed
--     Agrees told value                                   what is told, if anything is, is this
--     WentSo ..                                           the way in which a run went
--     IsAnswered ends                                     the status is not that of a failure
--     IsWholeRun ..                                       the whole of a run, in which no count of
--                                                         faults changed
--     IsQuiet old new                                     no call failed
--     IsReadOut ends, IsAllDone ends                      the input was read out, and all commands
--                                                         were done
--     IsInputSame, IsInputTaken, IsRestSame, IsUntouched  what wasn't touched, and what was taken
use Rattle.std.specs.Io.KnownBytes.{Consumes}
use Rattle.std.specs.Prelude.{◌≡◌, ℕ, ◌+◌, ◌<◌, ◌≤◌, List, [], length, Option, IfSome, ⊤}
use Rattle.mk_outside.specs.Counts.{Rose}
use Rattle.mk_outside.specs.declared.tables.Tables.{Tables}
use Rattle.mk_words.specs.declared.command.WordsKind.{WordsKind}
use Rattle.mk_words.specs.declared.command.WordsKind.TheVariants as words_kind
use Rattle.mk_session.specs.declared.status.Status.{Status}
use Rattle.mk_session.specs.declared.status.Status.TheVariants as status
use Rattle.mk_words.specs.Commands.{kind_of_words}
use Rattle.mk_session.specs.Ends.{Ends}
use Rattle.mk_session.specs.Faults.{Faults}
use Rattle.mk_found.specs.Files.{Look}
use Rattle.mk_session.specs.Orders.{Asked, asked, read_bytes, script_bytes}
use Rattle.mk_session.specs.Run.{IsRun}

-- what is told of the objects, how many of their calls failed, and how many on a name that isn't
-- there
pub record World : Type 0 where
  pub files : Option Look
  pub input : Option (List ℕ)
  pub output : Option (List ℕ)
  pub tables : Option Tables
  pub faults : Faults
  pub input_faults : ℕ
  pub absences : ℕ

-- what is told, if anything is, is this
abbrev pub Agrees : {A : Type 0} → Option A → A → Type 0
Agrees told value = IfSome told (λ t. t ≡ value)

-- The way in which a run went from the tables t: what it added to the output, the tables that it
-- left, and the status.
pub data WentSo (words : List (List ℕ)) (input : List ℕ) (t : Tables) (old new : World) (added : List ℕ) (left : Tables) (ends : Status) : Type 0 where
  -- the input wasn't read
  InputUnread : kind_of_words words ≡ words_kind.Script → Rose old.input_faults new.input_faults → new.faults ≡ old.faults
      → added ≡ [] → left ≡ t → ends ≡ status.Read → WentSo words input t old new added left ends
  -- or the input didn't fail, and the run ended with its cause
  Ended : new.input_faults ≡ old.input_faults → Ends old.files t (asked words input) old.faults new.faults added left ends → WentSo words input t old new added left ends

-- the statuses of answers: all but those of a failure
abbrev pub IsAnswered : Status → Type 0
IsAnswered status.Done = ⊤
IsAnswered status.Refused = ⊤
IsAnswered status.Words = ⊤
IsAnswered status.Read = ⊥
IsAnswered status.Write = ⊥
IsAnswered status.Store = ⊥
IsAnswered status.Memory = ⊥
IsAnswered status.BadStore = ⊤
IsAnswered status.ScriptLong = ⊤

-- the whole of a run, in which no count of faults changed
pub record IsWholeRun (files : Option Look) (t : Tables) (asked : Asked) (old new : Faults) (added : List ℕ) (left : Tables) (ends : Status) : Type 0 where
  pub run : IsRun files t asked added left ends
  pub counts : new ≡ old

-- no call failed: each count is what it was, below its last value
pub record IsQuiet (old new : World) : Type 0 where
  pub same : new.faults ≡ old.faults
  pub input_same : new.input_faults ≡ old.input_faults
  pub files : old.faults.files < 18446744073709551615
  pub input : old.input_faults < 18446744073709551615
  pub output : old.faults.output < 18446744073709551615
  pub keeper : old.faults.keeper < 18446744073709551615

-- the run read out its input: it ended behind its last command, or at a bad row of the store
pub data IsReadOut (ends : Status) : Type 0 where
  Done : ends ≡ status.Done → IsReadOut ends
  Refused : ends ≡ status.Refused → IsReadOut ends
  BadStore : ends ≡ status.BadStore → IsReadOut ends

-- every command was done
pub data IsAllDone (ends : Status) : Type 0 where
  AllCommandsDone : ends ≡ status.Done → IsAllDone ends
  SomeRefused : ends ≡ status.Refused → IsAllDone ends

-- the input wasn't touched
pub record IsInputSame (old new : World) : Type 0 where
  pub left : new.input ≡ old.input
  pub count : new.input_faults ≡ old.input_faults

-- Of the input at most a script and one read more was taken, and a told one tells what is left.
pub record IsInputTaken (old new : Option (List ℕ)) : Type 0 where
  pub taken : List ℕ
  pub is_taken : Consumes old new taken
  pub few : length taken ≤ script_bytes + read_bytes

-- the files and the keeper weren't touched
pub record IsRestSame (old new : World) : Type 0 where
  pub tables : new.tables ≡ old.tables
  pub files_count : new.faults.files ≡ old.faults.files
  pub keeper_count : new.faults.keeper ≡ old.faults.keeper
  pub absences : new.absences ≡ old.absences

-- where the one command of the words can't read a file, nothing was written
abbrev pub IsUntouched : WordsKind → Option (List ℕ) → Option (List ℕ) → Status → Type 0
IsUntouched (words_kind.Is command) so_far so_far' status.Read = so_far' ≡ so_far
IsUntouched _ so_far so_far' _ = ⊤
