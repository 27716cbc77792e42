-- The ways in which a run ends, each with its cause: what is added to the output, the tables that
-- are left, and the status.
--     Stopped ..      an order is begun and not brought to its end
--     Halts ..        some orders aren't all done
--     Goes ..         some orders, all done or not
--     Ends ..         a whole run, once the input is read
use Rattle.std.specs.Prelude.{◌≡◌, ◌≢◌, ℕ, List, [], ◌∷◌, ◌++◌, Option}
use Rattle.mk_outside.specs.declared.tables.Tables.{Tables}
use Rattle.mk_outside.specs.declared.tables.Change.{Change}
use Rattle.mk_session.specs.declared.status.Status.{Status}
use Rattle.mk_session.specs.declared.status.Status.TheVariants as status
use Rattle.mk_found.specs.Effects.{Answers, Effect, after_effect, text_answered}
use Rattle.mk_session.specs.Run.{after_effects, status_behind, texts, After, Does, IsOneLine}
use Rattle.mk_session.specs.Faults.{Faults, FilesFailed, OutputFailed, KeeperFailed}
use Rattle.mk_found.specs.Files.{Look}
use Rattle.mk_session.specs.Orders.{Asked, Order, Orders}
use Rattle.mk_session.specs.Step.{Comes, Reaches}
use Rattle.mk_kept.specs.StoredRows.{AllRead}

-- a text was to be written, and this part of it was: a prefix where the output failed, and nothing
-- for want of memory
pub data Unwritten (old new : Faults) (text part : List ℕ) (ends : Status) : Type 0 where
  PutFailed : (rest : List ℕ) → text ≡ part ++ rest → OutputFailed old new → ends ≡ status.Write → Unwritten old new text part ends
  PutNoMemory : part ≡ [] → new ≡ old → ends ≡ status.Memory → Unwritten old new text part ends

-- The order stops from the tables t, with this part of its answer written.
pub data Stopped (files : Option Look) (t : Tables) (order : Order) (old new : Faults) (part : List ℕ) (left : Tables) (ends : Status) : Type 0 where
  -- the file isn't read whose turn it is
  FileUnread : (name : List ℕ) → Reaches files t order name → FilesFailed old new
      → part ≡ [] → left ≡ t → ends ≡ status.Read → Stopped files t order old new part left ends
  -- the batch isn't committed
  Uncommitted : (batch : List Change) (text : List ℕ) → Comes files t order (Answers batch text) → batch ≢ [] → KeeperFailed old new
      → part ≡ [] → left ≡ t → ends ≡ status.Store → Stopped files t order old new part left ends
  -- memory is wanting
  OrderNoMemory : new ≡ old → part ≡ [] → left ≡ t → ends ≡ status.Memory → Stopped files t order old new part left ends
  -- it is done, and its answer isn't written
  Unanswered : (effect : Effect) → Comes files t order effect → Unwritten old new (text_answered effect) part ends
      → left ≡ after_effect effect t → Stopped files t order old new part left ends

-- The orders go on from the tables t and aren't all done.
pub data Halts (files : Option Look) (t : Tables) (orders : List Order) (old new : Faults) (added : List ℕ) (left : Tables) (ends : Status) : Type 0 where
  -- some are done, and the next one stops
  StoppedAt : (order : Order) (others : List Order) (effects : List Effect) → After files t orders (order ∷ others) effects
      → (part : List ℕ) → Stopped files (after_effects effects t) order old new part left ends
      → added ≡ texts effects ++ part → Halts files t orders old new added left ends
  -- some are done, and memory is wanting before the next
  NextNoMemory : (others : List Order) (effects : List Effect) → After files t orders others effects → new ≡ old
      → added ≡ texts effects → left ≡ after_effects effects t → ends ≡ status.Memory → Halts files t orders old new added left ends

-- The orders go on from the tables t.
pub data Goes (files : Option Look) (t : Tables) (orders : List Order) (old new : Faults) (added : List ℕ) (left : Tables) (ends : Status) : Type 0 where
  AllDone : (effects : List Effect) → Does files t orders effects → new ≡ old
      → added ≡ texts effects → left ≡ after_effects effects t → ends ≡ status_behind effects → Goes files t orders old new added left ends
  Halted : Halts files t orders old new added left ends → Goes files t orders old new added left ends

-- A run that is asked for this ends from the tables t.
pub data Ends (files : Option Look) (t : Tables) (asked : Asked) (old new : Faults) (added : List ℕ) (left : Tables) (ends : Status) : Type 0 where
  -- its one line is written
  LineWritten : IsOneLine t asked added ends → new ≡ old → left ≡ t → Ends files t asked old new added left ends
  -- or isn't
  LineUnwritten : (line : List ℕ) (would : Status) → IsOneLine t asked line would → Unwritten old new line added ends → left ≡ t → Ends files t asked old new added left ends
  -- the keeper isn't loaded
  Unloaded : (orders : List Order) → asked ≡ Orders orders → KeeperFailed old new
      → added ≡ [] → left ≡ t → ends ≡ status.Store → Ends files t asked old new added left ends
  -- memory is wanting before the first order
  FirstNoMemory : new ≡ old → added ≡ [] → left ≡ t → ends ≡ status.Memory → Ends files t asked old new added left ends
  -- the orders go on
  Commands : (orders : List Order) → asked ≡ Orders orders → AllRead t → Goes files t orders old new added left ends → Ends files t asked old new added left ends
