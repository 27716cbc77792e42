-- One command on a session.
--     Seeks ..         what it comes to, found before anything is changed
--     found_without_files      the same of a command that reads no file
--     IsStepped ..     what it leaves
--     ChangeCounts, StepCounts     the counts of faults over a change and over a command
use Rattle.std.specs.Prelude.{◌≡◌, ◌≢◌, ℕ, Bool, true, false, List, [], ◌++◌, Option, Result, Ok, Err}
use Rattle.mk_outside.specs.Counts.{Rose}
use Rattle.mk_outside.specs.declared.tables.Tables.{Tables}
use Rattle.mk_outside.specs.declared.tables.Change.{Change}
use Rattle.mk_outside.specs.declared.answers.KeepFail.{KeepFail}
use Rattle.mk_outside.specs.declared.answers.KeepFail.TheVariants as keep
use Rattle.mk_session.specs.declared.status.Ended.{Ended}
use Rattle.mk_session.specs.declared.status.Ended.TheVariants as ended
use Rattle.mk_found.specs.declared.effect.Found.{Found}
use Rattle.mk_found.specs.declared.effect.StepFail.{StepFail}
use Rattle.mk_found.specs.declared.effect.StepFail.TheVariants as fail
use Rattle.mk_found.specs.Effects.{Answers, Effect, Refuses, after_effect, text_answered}
use Rattle.mk_found.specs.Files.{Look}
use Rattle.mk_session.specs.Orders.{Order}
use Rattle.mk_session.specs.Step.{Comes, Reaches}
use Rattle.mk_found.specs.Findings.{IsReached, SeeksSo}

abbrev pub Seeks : Option Look → Tables → Order → ℕ → ℕ → Result Found StepFail → Type 0
Seeks files t order old new result = SeeksSo (Comes files t order) (Reaches files t order) old new result

-- what a command that reads no file comes to, as a step: it fails for want of memory alone
unfoldable pub found_without_files : {E : Type 0} → Result Found E → Result Found StepFail
found_without_files (Ok found) = Ok found
found_without_files (Err memory) = Err fail.Memory

-- how a command ended that came to this effect
abbrev pub ended_of : Effect → Ended
ended_of (Refuses line) = ended.Refused
ended_of (Answers batch text) = ended.Done

abbrev pub is_refused_end : Ended → Bool
is_refused_end ended.Done = false
is_refused_end ended.Refused = true

-- the command is done: the tables, and what is added to the answer
pub record IsDone (files : Option Look) (t t' : Tables) (order : Order) (old new : List ℕ) (e : Ended) : Type 0 where
  pub effect : Effect
  pub comes : Comes files t order effect
  pub tables : t' ≡ after_effect effect t
  pub answer : new ≡ old ++ text_answered effect
  pub ends : e ≡ ended_of effect

-- the batch of the command isn't empty
pub record IsPending (files : Option Look) (t : Tables) (order : Order) : Type 0 where
  pub batch : List Change
  pub text : List ℕ
  pub comes : Comes files t order (Answers batch text)
  pub some : batch ≢ []

-- the count of the keeper over a change: a batch without changes isn't committed
abbrev pub ChangeCounts : {A : Type 0} → List Change → ℕ → ℕ → Result A KeepFail → Type 0
ChangeCounts batch old new (Ok done) = new ≡ old
ChangeCounts batch old new (Err keep.Failed) = (batch ≢ []) × Rose old new
ChangeCounts batch old new (Err keep.Memory) = new ≡ old

-- one command on a session: after a failure the session and the answer are as before
abbrev pub IsStepped : Option Look → Tables → Tables → Order → List ℕ → List ℕ → Result Ended StepFail → Type 0
IsStepped files t t' order old new (Ok e) = IsDone files t t' order old new e
IsStepped files t t' order old new (Err fail) = (t' ≡ t) × (new ≡ old)

-- the counts of the files and of the keeper over a command
abbrev pub StepCounts : Option Look → Tables → Order → ℕ → ℕ → ℕ → ℕ → Result Ended StepFail → Type 0
StepCounts files t order f f' k k' (Ok e) = (f' ≡ f) × (k' ≡ k)
StepCounts files t order f f' k k' (Err fail.Read) = IsReached (Reaches files t order) × Rose f f' × (k' ≡ k)
StepCounts files t order f f' k k' (Err fail.Store) = IsPending files t order × Rose k k' × (f' ≡ f)
StepCounts files t order f f' k k' (Err fail.Memory) = (f' ≡ f) × (k' ≡ k)
