-- For the code: what it keeps of a template whose slots have become these pieces.
--     AreTakers template takers              for each atom the number of the slot that takes it
--     IsLaid template pieces takers befores  and for each atom how many atoms stand before those
--                                            that it becomes
--     Laid                                   a template whose slots have become pieces
use Rattle.std.specs.Prelude.{◌≡◌, ◌≤◌, ◌<◌, ◌+◌, ℕ, List, length, slice_index}
use Rattle.mk_model.specs.Pieces.{Piece}
use Rattle.mk_model.specs.declared.template.Slot.{Slot}
use Rattle.mk_model.specs.Templates.{TemplateView, slot_atom}
use Rattle.mk_model.specs.Pieces.{taker, room}
use Rattle.mk_pieces.specs.Rooms.{HaveRoom}

-- for each atom, from atom 1 on, the number of the slot that takes it, or 0
pub record AreTakers (template : TemplateView) (takers : List ℕ) : Type 0 where
  pub size : length takers ≡ length template.atoms
  pub each : (i : ℕ) → i < length takers → slice_index takers i ≡ taker template (i + 1)
  pub within : (i : ℕ) → i < length takers → slice_index takers i ≤ length template.slots

-- for each atom how many atoms stand before those that it becomes, and how many there are
pub record IsLaid (template : TemplateView) (pieces : List Piece) (takers befores : List ℕ) : Type 0 where
  pub taken : AreTakers template takers
  pub fits : HaveRoom template pieces
  pub size : length befores ≡ length template.atoms + 1
  pub each : (i : ℕ) → i < length befores → slice_index befores i ≡ room template pieces i

-- a template whose slots have become these pieces
pub record Laid : Type 0 where
  pub template : TemplateView
  pub pieces : List Piece

-- the slot stands at one of so many atoms
abbrev pub StandsWithin : ℕ → Slot → Type 0
StandsWithin count slot = (1 ≤ slot_atom slot) × (slot_atom slot ≤ count)
