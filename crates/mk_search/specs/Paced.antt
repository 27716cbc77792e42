-- Pages that stop within a budget of turns.
--     AreUpTo Held query place keys next      these are the first keys that remain, and from the
--                                             next place on remain the others
--     StopsSo .. stop                         why it stopped
--     IsPacedPage .. paced                    such a page, and how many turns it took
--     IsCountedTurn .. turn                   for the code: a turn of it
use Rattle.std.specs.Prelude.{◌≡◌, ◌≤◌, ◌<◌, ◌+◌, ◌-◌, ℕ, List, [], ◌∷◌, ◌++◌, None, length}
use Rattle.mk_text.specs.Rising.{AreFirst, IsBelow, IsLeastFrom, place_behind}
use Rattle.mk_model.specs.declared.turn.Turn.{Turn}
use Rattle.mk_model.specs.declared.turn.Turn.TheVariants.{Item, Moved, End}
use Rattle.mk_model.specs.Keys.{IsKey, Remains}
use Rattle.mk_model.specs.Molecules.{Molecule}
use Rattle.mk_model.specs.Nodes.{Ahead, SameFrom}
use Rattle.mk_model.specs.Queries.{QueryView}
use Rattle.mk_search.specs.Hits.{HitsLeft, MovesOn, TakesNone, TakesOutKey}
use Rattle.mk_search.specs.declared.paced.Paced.{Paced}
use Rattle.mk_search.specs.declared.paced.Stop.{Stop}
use Rattle.mk_search.specs.declared.paced.Stop.TheVariants.{Full, Ended, Paused}

-- the keys are the first that remain from the place on, and exactly the others remain from the next
-- one on, which isn't below it
pub record AreUpTo (Held : ℕ → Molecule → Type 0) (query : QueryView) (place : List ℕ) (keys : List (List ℕ))
    (next : List ℕ) : Type 0 where
  pub first : AreFirst (length keys) (Remains Held query place) keys
  pub others : SameFrom (IsKey Held query) (place_behind place keys) next
  pub up : IsBelow next place → ⊥

-- why it stopped: as many keys were given as asked for; or none is left; or the budget is spent, and
-- so many nodes but 514 lie between
abbrev pub StopsSo : (ℕ → Molecule → Type 0) → QueryView → List ℕ → ℕ → ℕ → List (List ℕ) → List ℕ → ℕ → Stop → Type 0
StopsSo Held query place limit budget keys next spent Full = (length keys ≡ limit) × (next ≡ place_behind place keys)
StopsSo Held query place limit budget keys next spent Ended = (length keys < limit) × IsLeastFrom next (IsKey Held query) None
StopsSo Held query place limit budget keys next spent Paused =
    (length keys < limit) × (budget ≤ spent) × Ahead Held query place next (budget - 514)

-- The first keys that remain from the place on, and the place from which the others do, of at most
-- 514 numbers; why it stopped; and how many turns were counted, at most the budget, and at least one
-- for each key.
pub record IsPacedPage (Held : ℕ → Molecule → Type 0) (query : QueryView) (place : List ℕ)
    (limit budget before after : ℕ) (paced : Paced) : Type 0 where
  pub spent : ℕ
  pub counted : after ≡ before + spent
  pub up_to : AreUpTo Held query place paced.hits paced.place
  pub stops : StopsSo Held query place limit budget paced.hits paced.place spent paced.stop
  pub each_counted : length paced.hits ≤ spent
  pub within : spent ≤ budget
  pub short : length paced.place ≤ 514

-- ---- for the code

-- a turn is counted, and a key that is taken out stands behind the others
abbrev pub IsCountedTurn : HitsLeft → HitsLeft → List (List ℕ) → List (List ℕ) → ℕ → ℕ → ℕ → ℕ → Turn → Type 0
IsCountedTurn old new keys given before after from to Item =
    (key : List ℕ) × TakesOutKey old new before after key × (given ≡ keys ++ key ∷ []) × (to ≡ from + 1)
IsCountedTurn old new keys given before after from to Moved = MovesOn old new before after × (given ≡ keys) × (to ≡ from + 1)
IsCountedTurn old new keys given before after from to End = TakesNone old new before after × (given ≡ keys) × (to ≡ from)
