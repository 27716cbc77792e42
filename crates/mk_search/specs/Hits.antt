-- The keys that are left from a place on, as `Hits` gives them, and for which pairs of a record and
-- a code it begins a matcher.
--     HitsLeft                        what is seen of a `Hits`
--     IsMadeFrom rows query place left      as it is made from a place
--     IsSameSearch old new            the rows and the query stay
--     IsNextKey old new .. key        the least key that is left is taken, and the place is behind
--                                     it; or there is none
--     IsTurnOfHits old new .. turn    a key is taken out, or the place moves, or there is none
--     IsPassed old new above          what is left of a record is passed over
use Rattle.std.specs.Prelude.{◌≡◌, ◌≤◌, ◌⊎◌, ◌+◌, ℕ, Bool, true, false, List, [], ◌∷◌, ◌++◌, Option, Some, None, length}
use Rattle.mk_text.specs.Rising.{Holds, IsBelow, IsLeast, IsLeastFrom}
use Rattle.mk_model.specs.declared.turn.Turn.{Turn}
use Rattle.mk_model.specs.declared.turn.Turn.TheVariants.{Item, Moved, End}
use Rattle.mk_model.specs.Keys.{IsKey}
use Rattle.mk_model.specs.Molecules.{Molecule}
use Rattle.mk_model.specs.Nodes.{IsNode, Pays, SameFrom}
use Rattle.mk_model.specs.Queries.{QueryView}
use Rattle.mk_rows.specs.declared.by_number.Numbered.{Numbered}
use Rattle.mk_rows.specs.Rows.{NoneFrom}
use Rattle.mk_search.specs.Begun.{Begun, IsPairLeft}
use Rattle.mk_expansions.specs.Starts.{first_number}
use Rattle.mk_search.specs.Pages.{IsHeldIn}

-- what is seen of a `Hits`: the rows, the query and the place from which keys are left; the list
-- from which on pairs of a record's number and a code are still to be begun; what is owed at the
-- place; and whether a matcher is open
pub record HitsLeft : Type 0 where
  pub rows : List (Numbered Molecule)
  pub query : QueryView
  pub place : List ℕ
  pub from : List ℕ
  pub debt : ℕ
  pub opened : Bool

-- the keys are those from the place on, no matcher is begun, and no more is owed than the place has
-- numbers
pub record IsMadeFrom (rows : List (Numbered Molecule)) (query : QueryView) (place : List ℕ)
    (left : HitsLeft) : Type 0 where
  pub rows_is : left.rows ≡ rows
  pub query_is : left.query ≡ query
  pub place_is : left.place ≡ place
  pub from_is : left.from ≡ first_number place ∷ []
  pub few : left.debt ≤ length place

-- the rows and the query stay
pub record IsSameSearch (old new : HitsLeft) : Type 0 where
  pub rows : new.rows ≡ old.rows
  pub query : new.query ≡ old.query

-- the key begins with a pair for which a matcher was begun, now or before
pub record IsOfPair (old new : HitsLeft) (begun : List (List ℕ)) (key : List ℕ) : Type 0 where
  pub number : ℕ
  pub code : List ℕ
  pub hit : List ℕ
  pub whole : key ≡ number ∷ (code ++ hit)
  pub placed : new.from ≡ number ∷ (code ++ 0 ∷ [])
  pub begun_for : Holds begun (number ∷ code) ⊎ (old.from ≡ number ∷ (code ++ 0 ∷ []))

-- the least key that is left is taken, and the place is behind it; there is one begin for each of
-- some pairs, and the key begins with one of them or with the one that was begun last
pub record TakesKey (old new : HitsLeft) (before after : ℕ) (key : List ℕ) : Type 0 where
  pub same : IsSameSearch old new
  pub least : IsLeast old.place (IsKey (IsHeldIn old.rows) old.query) key
  pub place : new.place ≡ key ++ 0 ∷ []
  pub begun : Begun (IsPairLeft old.rows old.query old.place) old.from new.from before after
  pub taken : IsOfPair old new begun.begun key

-- there is none, and the place stays
pub record TakesNone (old new : HitsLeft) (before after : ℕ) : Type 0 where
  pub same : IsSameSearch old new
  pub none : IsLeastFrom old.place (IsKey (IsHeldIn old.rows) old.query) None
  pub place : new.place ≡ old.place
  pub to : List ℕ
  pub begun : Begun (IsPairLeft old.rows old.query old.place) old.from to before after

-- the next key is taken, or there is none
abbrev pub IsNextKey : HitsLeft → HitsLeft → ℕ → ℕ → Option (List ℕ) → Type 0
IsNextKey old new before after None = TakesNone old new before after
IsNextKey old new before after (Some key) = TakesKey old new before after key

-- ---- turns

-- what a turn passes, and owes before and behind it
abbrev pub IsPaid : HitsLeft → HitsLeft → Type 0
IsPaid old new = Pays (IsNode (IsHeldIn old.rows) old.query) old.place old.debt new.place new.debt

-- the least key that is left is taken out; the matcher of its pair was begun now, or was open
pub record TakesOutKey (old new : HitsLeft) (before after : ℕ) (key : List ℕ) : Type 0 where
  pub takes : TakesKey old new before after key
  pub since : Holds takes.begun.begun (takes.taken.number ∷ takes.taken.code)
      ⊎ ((old.opened ≡ true) × (old.from ≡ takes.taken.number ∷ (takes.taken.code ++ 0 ∷ [])))
  pub pays : IsPaid old new

-- the matcher that is open was begun now, or was open before
abbrev pub IsOpenStill : HitsLeft → HitsLeft → List (List ℕ) → Type 0
IsOpenStill old new begun =
    new.opened ≡ true → (number : ℕ) (code : List ℕ) → new.from ≡ number ∷ (code ++ 0 ∷ [])
    → Holds begun (number ∷ code) ⊎ ((old.opened ≡ true) × (old.from ≡ number ∷ (code ++ 0 ∷ [])))

-- none is taken out: the same keys are left from the new place, which has no more than 514 numbers
-- where the old one has; and no pair for which a matcher is begun is above it
pub record MovesOn (old new : HitsLeft) (before after : ℕ) : Type 0 where
  pub search : IsSameSearch old new
  pub same : SameFrom (IsKey (IsHeldIn old.rows) old.query) old.place new.place
  pub short : length old.place ≤ 514 → length new.place ≤ 514
  pub begun : Begun (IsPairLeft old.rows old.query old.place) old.from new.from before after
  pub up_to : (pair : List ℕ) → Holds begun.begun pair → IsBelow new.place pair → ⊥
  pub since : IsOpenStill old new begun.begun
  pub pays : IsPaid old new

-- the least key that is left is taken out; or none, and the place is further on; or none is left
abbrev pub IsTurnOfHits : HitsLeft → HitsLeft → ℕ → ℕ → Turn → Type 0
IsTurnOfHits old new before after Item = (key : List ℕ) × TakesOutKey old new before after key
IsTurnOfHits old new before after Moved = MovesOn old new before after
IsTurnOfHits old new before after End = TakesNone old new before after

-- ---- the rest of a record

-- The place is the number above the one with which it began: so the keys that are left are those of
-- the records above. No matcher is begun.
pub record GoesUp (old new : HitsLeft) : Type 0 where
  pub same : IsSameSearch old new
  pub place : new.place ≡ (first_number old.place + 1) ∷ []
  pub from : new.from ≡ (first_number old.place + 1) ∷ []

-- the record with which the place begins is passed over, where a record above it is held; where none
-- is, nothing changes
abbrev pub IsPassed : HitsLeft → HitsLeft → Bool → Type 0
IsPassed old new true = GoesUp old new
IsPassed old new false = (new ≡ old) × NoneFrom (first_number old.place + 1) old.rows
