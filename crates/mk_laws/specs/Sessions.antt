-- Laws of sessions.
--     unframed pieces         what was put, with the frames taken off
--     HistoriesAreScripts     the bytes of a history, without the frames, are those of a run
--     SessionsEndAsScripts    so are those of a session that went on to the end of its input
--     OneSession              and without budgets they are those of each run
use Rattle.std.specs.Prelude.{◌≡◌, ◌≢◌, ℕ, ◌<◌, ◌≤◌, ◌==◌, List, [], ◌∷◌, length, Option, Some, if◌then◌else◌}
use Rattle.std.specs.List.{AllByRecursion, flat_map}
use Rattle.mk_outside.specs.declared.tables.Tables.{Tables}
use Rattle.mk_kept.specs.StoredRows.{AllRead}
use Rattle.mk_found.specs.Files.{Look}
use Rattle.mk_session.specs.declared.status.Status.{Status}
use Rattle.mk_session.specs.declared.status.Status.TheVariants as status
use Rattle.mk_session.specs.Orders.{HasNoBudget, asked_of_script, orders_asked, script_bytes}
use Rattle.mk_session.specs.Run.{IsRun}
use Rattle.mk_talk.specs.declared.event.Event.{Event}
use Rattle.mk_talk.specs.Answers.{Held}
use Rattle.mk_talk.specs.Events.{heard, said}
use Rattle.mk_talk.specs.Frames.{NoMemory, Unread, frame}
use Rattle.mk_talk.specs.Lines.{all_lines, line_bytes, orders_of_all}
use Rattle.mk_talk.specs.Speaks.{IsAnsweredTo, Talked}

-- what stands behind the first LF of a piece
abbrev pub behind_lf : List ℕ → List ℕ
behind_lf [] = []
behind_lf (c ∷ cs) = if c == 10 then cs else behind_lf cs

-- what was put, with the frames taken off
abbrev pub unframed : List (List ℕ) → List ℕ
unframed pieces = flat_map behind_lf pieces

-- The piece has fewer than 2 ^ 64 bytes, and says neither that a file couldn't be read nor that
-- memory was wanting.
pub record IsNoFailure (piece : List ℕ) : Type 0 where
  pub fits : length piece < 18446744073709551616
  pub was_read : piece ≢ frame Unread []
  pub had_memory : piece ≢ frame NoMemory []

-- the input is no longer than a script, and no line of it longer than a line may be
pub record CanBeScript (input : List ℕ) : Type 0 where
  pub small : length input ≤ script_bytes
  pub short : AllByRecursion (λ line. length line ≤ line_bytes) (all_lines input)

-- a run of the input as a script writes what was put, without the frames, and leaves these tables
pub record IsRunOf (look : Option Look) (s s' : Held) (input : List ℕ) (events : List Event) : Type 0 where
  pub ends : Status
  pub run : IsRun look s.tables (asked_of_script input) (unframed (said events)) s'.tables ends

-- A history in which the lines of an input are answered, none as unread and none for want of memory:
-- without the frames its bytes and its tables are those of a run of the input as a script.
abbrev pub HistoriesAreScripts : Type 0
HistoriesAreScripts = (look : Option Look) (s s' : Held) (input : List ℕ) (events : List Event)
    → AllRead s.tables → CanBeScript input → AllByRecursion IsNoFailure (said events)
    → IsAnsweredTo look s s' (orders_of_all (all_lines input)) events
    → IsRunOf look s s' input events

-- so it is with all that was read, where the session ends with 0
abbrev pub SessionsEndAsScripts : Type 0
SessionsEndAsScripts = (look : Option Look) (s s' : Held) (events : List Event)
    → AllRead s.tables → CanBeScript (heard events) → AllByRecursion IsNoFailure (said events)
    → Talked look s s' events status.Done
    → IsRunOf look s s' (heard events) events

-- Over told files, where no line has a budget: these are the bytes and the tables of each run of what
-- was read as a script.
abbrev pub OneSession : Type 0
OneSession = (look : Look) (s s' : Held) (events : List Event) (added : List ℕ) (left : Tables) (ends : Status)
    → AllRead s.tables → CanBeScript (heard events) → AllByRecursion IsNoFailure (said events)
    → AllByRecursion HasNoBudget (orders_asked (asked_of_script (heard events)))
    → Talked (Some look) s s' events status.Done
    → IsRun (Some look) s.tables (asked_of_script (heard events)) added left ends
    → (unframed (said events) ≡ added) × (s'.tables ≡ left)
