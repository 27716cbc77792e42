-- A run whose status isn't that of a failure was a whole run, whatever the counts were.
use Rattle.std.proofs.Common.{◌≡◌, ◌≢◌, ℕ, List, Option}
use Rattle.mk_outside.specs.declared.tables.Tables.{Tables}
use Rattle.mk_session.specs.declared.status.Status.{Status}
use Rattle.mk_session.specs.declared.status.Status.TheVariants as status
use Rattle.mk_session.specs.Orders.{Asked, Order, Orders, asked}
use Rattle.mk_session.specs.Ends.{Unwritten, PutFailed, PutNoMemory, Stopped, FileUnread, Uncommitted, OrderNoMemory, Unanswered, Halts, StoppedAt, NextNoMemory, Goes, AllDone, Halted, Ends, LineWritten, LineUnwritten, Unloaded, FirstNoMemory, Commands as EndsCommands}
use Rattle.mk_session.specs.Faults.{Faults}
use Rattle.mk_found.specs.Files.{Look}
use Rattle.mk_session.specs.Outcomes.{World, WentSo, InputUnread, Ended, IsAnswered, IsWholeRun}
use Rattle.mk_session.specs.Run.{OneLine, Commands}
use Rattle.mk_kept.specs.StoredRows.{AllRead}

-- a status that is an answer is none of a failure
record IsNoFailure (ends : Status) : Type 0 where
  no_read : ends ≢ status.Read
  no_write : ends ≢ status.Write
  no_store : ends ≢ status.Store
  no_memory : ends ≢ status.Memory

no_failure : (ends : Status) → IsAnswered ends → IsNoFailure ends
no_failure status.Done a = record { no_read = λ e. cc; no_write = λ e. cc; no_store = λ e. cc; no_memory = λ e. cc }
no_failure status.Refused a = record { no_read = λ e. cc; no_write = λ e. cc; no_store = λ e. cc; no_memory = λ e. cc }
no_failure status.Words a = record { no_read = λ e. cc; no_write = λ e. cc; no_store = λ e. cc; no_memory = λ e. cc }
no_failure status.BadStore a = record { no_read = λ e. cc; no_write = λ e. cc; no_store = λ e. cc; no_memory = λ e. cc }
no_failure status.ScriptLong a = record { no_read = λ e. cc; no_write = λ e. cc; no_store = λ e. cc; no_memory = λ e. cc }
no_failure status.Read a = absurd a
no_failure status.Write a = absurd a
no_failure status.Store a = absurd a
no_failure status.Memory a = absurd a

module _ (files : Option Look) (t : Tables) (old new : Faults) (ends : Status) (n : IsNoFailure ends) where
  unwritten_none : (text part : List ℕ) → Unwritten old new text part ends → ⊥
  unwritten_none text part (PutFailed rest is failed e) = n.no_write e
  unwritten_none text part (PutNoMemory is count e) = n.no_memory e

  stopped_none : (u : Tables) (order : Order) (part : List ℕ) (left : Tables) → Stopped files u order old new part left ends → ⊥
  stopped_none u order part left (FileUnread name reaches failed a b e) = n.no_read e
  stopped_none u order part left (Uncommitted batch text comes some failed a b e) = n.no_store e
  stopped_none u order part left (OrderNoMemory count a b e) = n.no_memory e
  stopped_none u order part left (Unanswered effect comes unwritten b) = unwritten_none _ part unwritten

  halts_none : (orders : List Order) (added : List ℕ) (left : Tables) → Halts files t orders old new added left ends → ⊥
  halts_none orders added left (StoppedAt order others effects after part stopped is) = stopped_none _ order part left stopped
  halts_none orders added left (NextNoMemory others effects after count is kept e) = n.no_memory e

  goes_whole : (a : Asked) (orders : List Order) (added : List ℕ) (left : Tables) → a ≡ Orders orders → AllRead t → Goes files t orders old new added left ends
      → IsWholeRun files t a old new added left ends
  goes_whole a orders added left is reads (AllDone effects does count x y e) = record { run = Commands orders is reads effects does x y e; counts = count }
  goes_whole a orders added left is reads (Halted h) = absurd (halts_none orders added left h)

  ends_whole : (a : Asked) (added : List ℕ) (left : Tables) → Ends files t a old new added left ends → IsWholeRun files t a old new added left ends
  ends_whole a added left (LineWritten one count is) = record { run = OneLine one is; counts = count }
  ends_whole a added left (LineUnwritten line would one unwritten is) = absurd (unwritten_none line added unwritten)
  ends_whole a added left (Unloaded orders is failed x y e) = absurd (n.no_store e)
  ends_whole a added left (FirstNoMemory count x y e) = absurd (n.no_memory e)
  ends_whole a added left (EndsCommands orders is reads goes) = goes_whole a orders added left is reads goes

pub answered_whole : (words : List (List ℕ)) (input : List ℕ) (t : Tables) (old new : World) (added : List ℕ)
    (left : Tables) (ends : Status) → IsAnswered ends → WentSo words input t old new added left ends
    → IsWholeRun old.files t (asked words input) old.faults new.faults added left ends
answered_whole words input t old new added left ends a (InputUnread script rose same x y e) = absurd ((no_failure ends a).no_read e)
answered_whole words input t old new added left ends a (Ended same e) = ends_whole old.files t old.faults new.faults ends (no_failure ends a) (asked words input) added left e
