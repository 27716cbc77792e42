-- What a turn of a search comes to. This file serves the code alone.
--     node_reached search                        the list that its walk came to last
--     IsNextFrom graph mol place new turn        of the hits from a place on
--     Turns graph mol place debt new turn        from a place, with what is owed there
use Rattle.std.specs.Prelude.{◌≡◌, ◌<◌, ◌≤◌, ℕ, List, [], ◌∷◌, ◌++◌, None, length}
use Rattle.mk_text.specs.Rising.{IsLeast, IsLeastFrom}
use Rattle.mk_model.specs.declared.turn.Turn.{Turn}
use Rattle.mk_model.specs.declared.turn.Turn.TheVariants.{Item, Moved, End}
use Rattle.mk_model.specs.Molecules.{Molecule}
use Rattle.mk_model.specs.Graphs.{GraphView}
use Rattle.mk_model.specs.Hits.{IsHit}
use Rattle.mk_model.specs.Nodes.{Pays}
use Rattle.mk_walk.specs.declared.search.Search.{Search}
use Rattle.mk_walk.specs.Search.{IsLeft, IsOwed}
use Rattle.mk_walk.specs.Turns.{IsMapNode, node_of}
use Rattle.mk_walk.specs.Walk.{SameFrom}

-- the list that the walk came to last
abbrev pub node_reached : Search → List ℕ
node_reached search = node_of search.walk.images.items search.walk.depth search.walk.above

-- The least hit from the place on is taken out; or all of them are left, and the next turn says
-- what this one would; or there are none.
abbrev pub IsNextFrom : GraphView → Molecule → List ℕ → Search → Turn → Type 0
IsNextFrom graph mol place new Item = IsLeast place (IsHit graph mol) new.walk.images.items
IsNextFrom graph mol place new Moved = IsLeft graph mol place new
IsNextFrom graph mol place new End = IsLeastFrom place (IsHit graph mol) None

-- the first hit is taken out, and the place is behind it
pub record TakesOut (graph : GraphView) (mol : Molecule) (place : List ℕ) (debt : ℕ) (new : Search) : Type 0 where
  pub least : IsLeast place (IsHit graph mol) new.walk.images.items
  pub left : IsLeft graph mol (new.walk.images.items ++ 0 ∷ []) new
  pub owed : IsOwed (new.walk.images.items ++ 0 ∷ []) 0 new
  pub pays : Pays (IsMapNode graph mol) place debt (new.walk.images.items ++ 0 ∷ []) 0

-- none is taken out, and the place is the node that was reached
pub record MovesOn (graph : GraphView) (mol : Molecule) (place : List ℕ) (debt : ℕ) (new : Search) : Type 0 where
  pub same : SameFrom (IsHit graph mol) place (node_reached new)
  pub left : IsLeft graph mol (node_reached new) new
  pub owed : IsOwed (node_reached new) 0 new
  pub pays : Pays (IsMapNode graph mol) place debt (node_reached new) 0
  pub few : length (node_reached new) ≤ length graph.atoms
  pub short : new.walk.depth < length new.walk.images.items
  pub room : length new.walk.images.items ≡ length graph.atoms

-- none is left
pub record IsAtItsEnd (graph : GraphView) (mol : Molecule) (place : List ℕ) (debt : ℕ) (new : Search) : Type 0 where
  pub none : IsLeastFrom place (IsHit graph mol) None
  pub left : IsLeft graph mol place new
  pub owed : IsOwed place debt new

-- what the turn came to
abbrev pub Turns : GraphView → Molecule → List ℕ → ℕ → Search → Turn → Type 0
Turns graph mol place debt new Item = TakesOut graph mol place debt new
Turns graph mol place debt new Moved = MovesOn graph mol place debt new
Turns graph mol place debt new End = IsAtItsEnd graph mol place debt new
