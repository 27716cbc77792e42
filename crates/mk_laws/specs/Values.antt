-- Laws that a command and a run have their value: over told files, where each file is there whose
-- turn comes, an order comes to an effect, and a run has an outcome.
--     CanBeAsked t             each query's text means a query, and each saved search has its query
--                              and a short place
--     HasItsFile look t order  the file is there whose turn comes
--     EachOrderHasEffect       then an order comes to an effect
--     EffectsKeepQueries       which leaves tables that can be asked again
--     AllReadOrBad             the rows of tables read, or there is a first that doesn't
--     EachRunHasOutcome        a run has an outcome
use Rattle.std.specs.Prelude.{◌≡◌, ◌≤◌, ◌⊎◌, ℕ, true, List, Some, length}
use Rattle.std.specs.List.{AllByRecursion}
use Rattle.mk_outside.specs.declared.tables.CursorRow.{CursorRow}
use Rattle.mk_outside.specs.declared.tables.QueryRow.{QueryRow}
use Rattle.mk_outside.specs.declared.tables.Tables.{Tables}
use Rattle.mk_session.specs.declared.status.Status.{Status}
use Rattle.mk_kept.specs.declared.stored_rows.RowKind.{RowKind}
use Rattle.mk_found.specs.Effects.{Effect, after_effect}
use Rattle.mk_found.specs.Files.{IsThere, Look}
use Rattle.mk_session.specs.Orders.{Asked, Order, orders_asked}
use Rattle.mk_session.specs.Run.{HasItsFiles, IsRun}
use Rattle.mk_kept.specs.Saved.{HasMeaning, is_named, longest_place}
use Rattle.mk_session.specs.Step.{Comes, Reaches}
use Rattle.mk_kept.specs.StoredRows.{AllRead, IsFirstBad}

-- the text of each query means a query, and each saved search has the name of a query that is held,
-- and a place no longer than a place can be
pub record CanBeAsked (t : Tables) : Type 0 where
  pub queries : AllByRecursion (λ (row : QueryRow). HasMeaning row.text) t.queries
  pub cursors : AllByRecursion (λ (row : CursorRow). is_named row.name t.queries ≡ true) t.cursors
  pub short : AllByRecursion (λ (row : CursorRow). length row.place ≤ longest_place) t.cursors

-- each file is there whose turn comes with the order
abbrev pub HasItsFile : Look → Tables → Order → Type 0
HasItsFile look t order = (name : List ℕ) → Reaches (Some look) t order name → IsThere (Some look) name

-- an order comes to an effect, where its files are there
abbrev pub EachOrderHasEffect : Type 0
EachOrderHasEffect =
    (look : Look) (t : Tables) (order : Order) → CanBeAsked t → HasItsFile look t order
    → (effect : Effect) × Comes (Some look) t order effect

-- an effect leaves tables that can be asked, where those before it could
abbrev pub EffectsKeepQueries : Type 0
EffectsKeepQueries =
    (look : Look) (t : Tables) (order : Order) (effect : Effect) → Comes (Some look) t order effect
    → CanBeAsked t → CanBeAsked (after_effect effect t)

-- the rows of tables all read, or there is a first that doesn't
abbrev pub AllReadOrBad : Type 0
AllReadOrBad = (t : Tables) → AllRead t ⊎ ((kind : RowKind) × ((number : ℕ) × IsFirstBad t kind number))

-- a run has an outcome, where the files are there whose turn comes: the bytes that it adds, the
-- tables that it leaves, and its status
abbrev pub EachRunHasOutcome : Type 0
EachRunHasOutcome =
    (look : Look) (t : Tables) (asked : Asked) → HasItsFiles (Some look) t (orders_asked asked)
    → (added : List ℕ) × (left : Tables) × (ends : Status) × IsRun (Some look) t asked added left ends
