-- The hits that are left from a place on, as `Maps` gives them.
--     MapsLeft             what is seen of a `Maps`: its graph, its molecule, its place and what it
--                          owes
--     IsMadeFrom graph mol place left      as it is made from a place
--     IsTurn old new turn  a hit is taken out, or the place moves, or there is none
--     IsTaken old new b    the least hit that is left is taken, and the place is behind it; or
--                          there is none
--     AreLeft left hits    these are the hits that are left, in rising order
use Rattle.std.specs.Prelude.{◌≡◌, ◌≤◌, ◌+◌, ◌==◌, if◌then◌else◌, ℕ, Bool, true, false, List, [], ◌∷◌, ◌++◌, Option, Some, None, length, take}
use Rattle.std.specs.Borrow.{Bor}
use Rattle.mk_text.specs.Rising.{IsFrom, IsLeast, IsLeastFrom, IsRisingListOfAll}
use Rattle.mk_model.specs.Molecules.{Molecule}
use Rattle.mk_model.specs.Graphs.{GraphView}
use Rattle.mk_model.specs.Hits.{IsHit}
use Rattle.mk_model.specs.Nodes.{Pays}
use Rattle.mk_model.specs.declared.turn.Turn.{Turn}
use Rattle.mk_model.specs.declared.turn.Turn.TheVariants.{Item, Moved, End}
use Rattle.mk_walk.specs.declared.search.Search.{Search}
use Rattle.mk_walk.specs.Search.{IsLeft, IsOwed, IsSearch}
use Rattle.mk_walk.specs.Turns.{IsMapNode}
use Rattle.mk_walk.specs.Walk.{SameFrom}

-- what is seen of a `Maps`: its graph, its molecule, the place from which hits are left, and what is
-- owed there
pub record MapsLeft : Type 0 where
  pub graph : GraphView
  pub mol : Molecule
  pub place : List ℕ
  pub debt : ℕ

-- what a `Maps` keeps beside: its search gives the hits from the place on, and there is room for a
-- further place
pub record IsReady (graph : GraphView) (mol : Molecule) (search : Search) (place : List ℕ) (len debt : ℕ) : Type 0 where
  pub search_is : IsSearch graph mol search
  pub left : IsLeft graph mol (take len place) search
  pub owed : IsOwed (take len place) debt search
  pub within : len ≤ length place
  pub room : length graph.atoms + 1 ≤ length place

-- the hits are those from the place on, and no more is owed than the place has numbers; where the
-- empty list is a hit, it may be one more
pub record IsMadeFrom (graph : GraphView) (mol : Molecule) (place : List ℕ) (left : MapsLeft) : Type 0 where
  pub graph_is : left.graph ≡ graph
  pub mol_is : left.mol ≡ mol
  pub place_is : left.place ≡ place
  pub few : left.debt ≤ length place + (if length graph.atoms == 0 then 1 else 0)

-- a hit is the least that is left, and the place is behind it
pub record IsNext (old new : MapsLeft) (hit : List ℕ) : Type 0 where
  pub least : IsLeast old.place (IsHit old.graph old.mol) hit
  pub graph : new.graph ≡ old.graph
  pub mol : new.mol ≡ old.mol
  pub place : new.place ≡ hit ++ (0 ∷ [])

-- a hit is taken, or there is none and all is as it was
abbrev pub IsTaken : MapsLeft → MapsLeft → Bool → Type 0
IsTaken old new true = (hit : List ℕ) × IsNext old new hit
IsTaken old new false = IsLeastFrom old.place (IsHit old.graph old.mol) None × (new ≡ old)

-- the hit is taken, or there is none and all is as it was
abbrev pub IsNextOf : MapsLeft → Option (Bor (List ℕ)) → MapsLeft → Type 0
IsNextOf old None new = IsLeastFrom old.place (IsHit old.graph old.mol) None × (new ≡ old)
IsNextOf old (Some hit) new = IsNext old new hit.now

-- ---- turns

-- none is taken out: the same hits are left from the new place, which has at most one number more
-- than the graph has atoms
pub record IsMoved (old new : MapsLeft) : Type 0 where
  pub graph : new.graph ≡ old.graph
  pub mol : new.mol ≡ old.mol
  pub same : SameFrom (IsHit old.graph old.mol) old.place new.place
  pub few : length new.place ≤ length old.graph.atoms + 1

-- what a turn passes, and owes before and behind it
abbrev pub IsPaid : MapsLeft → MapsLeft → Type 0
IsPaid old new = Pays (IsMapNode old.graph old.mol) old.place old.debt new.place new.debt

-- the first hit is taken out; or none, and the place is further on; or none is left
abbrev pub IsTurn : MapsLeft → MapsLeft → Turn → Type 0
IsTurn old new Item = ((hit : List ℕ) × IsNext old new hit) × IsPaid old new
IsTurn old new Moved = IsMoved old new × IsPaid old new
IsTurn old new End = IsLeastFrom old.place (IsHit old.graph old.mol) None × (new ≡ old)

-- ---- laws

-- the hits are those that are left, in rising order
abbrev pub AreLeft : MapsLeft → List (List ℕ) → Type 0
AreLeft left hits = IsRisingListOfAll (IsFrom (IsHit left.graph left.mol) left.place) hits

-- a hit that is taken is the first of those left before, and what is left behind it are the others
abbrev pub NextIsFirst : Type 0
NextIsFirst = (old new : MapsLeft) (hit : List ℕ) (hits : List (List ℕ)) → IsNext old new hit → AreLeft new hits → AreLeft old (hit ∷ hits)

-- where none is taken none was left
abbrev pub NoneIsLeft : Type 0
NoneIsLeft = (old : MapsLeft) → IsLeastFrom old.place (IsHit old.graph old.mol) None → AreLeft old []
