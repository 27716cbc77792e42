-- Orders done in turn, and a whole run.
--     texts effects, after_effects effects t       the answers of several effects, and the tables
--                                                  after them
--     status_behind effects               how a run ends with these
--     Does files t orders effects         the orders, done in turn from t, come to these effects
--     After files t orders left effects   the same of the first of them, where these are left
--     IsRun files t asked added left ends     a run adds these bytes, leaves these tables and ends
--                                             so
--     HasItsFiles files t orders          each file is there whose turn comes
use Rattle.std.specs.Prelude.{ℕ, Bool, List, [], ◌∷◌, if◌then◌else◌, ◌≡◌, ◌≤◌, ◌++◌, Option, codes, decimal}
use Rattle.std.specs.List.{list_any, flat_map}
use Rattle.mk_outside.specs.declared.tables.Tables.{Tables}
use Rattle.mk_session.specs.declared.status.Status.{Status}
use Rattle.mk_session.specs.declared.status.Status.TheVariants as status
use Rattle.mk_found.specs.Effects.{Effect, text_answered, after_effect, is_refusal}
use Rattle.mk_kept.specs.declared.stored_rows.RowKind.{RowKind}
use Rattle.mk_kept.specs.declared.stored_rows.RowKind.TheVariants.{Records, Queries, Cursors}
use Rattle.mk_found.specs.Files.{IsThere, Look}
use Rattle.mk_session.specs.Orders.{Order, Asked, NoCommand, TooMuch, Orders}
use Rattle.mk_session.specs.Step.{Comes, Reaches}
use Rattle.mk_kept.specs.StoredRows.{AllRead, IsFirstBad}

-- the answers, one after the other
abbrev pub texts : List Effect → List ℕ
texts effects = flat_map text_answered effects

-- the tables after all, each from those that the one before left
abbrev pub after_effects : List Effect → Tables → Tables
after_effects [] t = t
after_effects (effect ∷ effects) t = after_effects effects (after_effect effect t)

-- a run ends with 1 where some command was refused, else with 0
abbrev pub ending_if : Bool → Status
ending_if refused = if refused then status.Refused else status.Done

-- how a run ends whose commands came to these
abbrev pub status_behind : List Effect → Status
status_behind effects = ending_if (list_any is_refusal effects)

-- the orders, done in turn, come to these effects, each from the tables that the one before left
abbrev pub Does : Option Look → Tables → List Order → List Effect → Type 0
Does files t [] [] = t ≡ t
Does files t [] (effect ∷ effects) = ⊥
Does files t (order ∷ orders) [] = ⊥
Does files t (order ∷ orders) (effect ∷ effects) = Comes files t order effect × Does files (after_effect effect t) orders effects

-- the first of the orders are done, and these are left
pub record After (files : Option Look) (t : Tables) (orders left : List Order) (effects : List Effect) : Type 0 where
  pub done : List Order
  pub whole : orders ≡ done ++ left
  pub does : Does files t done effects

-- ---- a run

abbrev pub kind_text : RowKind → List ℕ
kind_text Records = codes "record "
kind_text Queries = codes "query "
kind_text Cursors = codes "cursor "

abbrev pub bad_store_text : RowKind → ℕ → List ℕ
bad_store_text kind number = codes "bad store " ++ (kind_text kind ++ (decimal number ++ codes "\n"))

abbrev pub not_understood_text : List ℕ
not_understood_text = codes "words not understood\n"

abbrev pub script_long_text : List ℕ
script_long_text = codes "script too long\n"

-- a run that does no command: its one line, and its status
pub data IsOneLine (t : Tables) (asked : Asked) (line : List ℕ) (ends : Status) : Type 0 where
  NotUnderstood : asked ≡ NoCommand → line ≡ not_understood_text → ends ≡ status.Words → IsOneLine t asked line ends
  ScriptLong : asked ≡ TooMuch → line ≡ script_long_text → ends ≡ status.ScriptLong → IsOneLine t asked line ends
  BadStore : (orders : List Order) → asked ≡ Orders orders → (kind : RowKind) (number : ℕ) → IsFirstBad t kind number
      → line ≡ bad_store_text kind number → ends ≡ status.BadStore → IsOneLine t asked line ends

-- a run: the bytes that it adds to the output, the tables that it leaves, and its status
pub data IsRun (files : Option Look) (t : Tables) (asked : Asked) (added : List ℕ) (left : Tables) (ends : Status) : Type 0 where
  OneLine : IsOneLine t asked added ends → left ≡ t → IsRun files t asked added left ends
  Commands : (orders : List Order) → asked ≡ Orders orders → AllRead t → (effects : List Effect) → Does files t orders effects
      → added ≡ texts effects → left ≡ after_effects effects t → ends ≡ status_behind effects → IsRun files t asked added left ends

-- ---- the files that are read

-- each file is there whose turn comes while the orders are done
abbrev pub HasItsFiles : Option Look → Tables → List Order → Type 0
HasItsFiles files t orders = (order : Order) (others : List Order) (effects : List Effect) → After files t orders (order ∷ others) effects
    → (name : List ℕ) → Reaches files (after_effects effects t) order name → IsThere files name

-- the count of absences never falls, and stays where no file is missed
pub record Misses (files : Option Look) (t : Tables) (orders : List Order) (old new : ℕ) : Type 0 where
  pub never_falls : old ≤ new
  pub absent : HasItsFiles files t orders → new ≡ old
