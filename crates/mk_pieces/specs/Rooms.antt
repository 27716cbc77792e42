-- For the code: what is true of the pieces of a template, and of its bonds and slots by their
-- numbers.
--     IsSmall piece                  a piece has at most 512 atoms
--     HaveRoom template pieces       the slots have become pieces, at most 512 atoms in all
--     IsWithin template bond         the ends of the bond are two atoms of the template
--     AreEndsWithin count bond       they are among so many atoms
--     StandsAt template slot         the slot stands at an atom of the template
--     IsSmallTemplate query t        the size of the template is at most 512
use Rattle.std.specs.Prelude.{◌≡◌, ◌≢◌, ◌≤◌, ◌<◌, ℕ, Bool, List, length, All}
use Rattle.mk_model.specs.declared.template.QueryBond.{QueryBond}
use Rattle.mk_model.specs.declared.template.Slot.{Slot}
use Rattle.mk_model.specs.Pieces.{Piece, end_of, room, width}
use Rattle.mk_model.specs.Pieces.Piece.{Member}
use Rattle.mk_model.specs.Queries.{QueryView}
use Rattle.mk_model.specs.Sizes.{IsSizing}
use Rattle.mk_model.specs.Templates.{TemplateView, slot_atom}

-- the bonds of a member end at numbers up to 512
abbrev pub HasSmallBonds : Piece → Type 0
HasSmallBonds (Member part) = All (λ bond. (bond.first ≤ 512) × (bond.second ≤ 512)) part.bonds
HasSmallBonds piece = Unit {0}

-- a piece has at most 512 atoms, and its ends are numbers up to 512
pub record IsSmall (piece : Piece) : Type 0 where
  pub bonds : HasSmallBonds piece
  pub width : width piece ≤ 512
  pub ends : (far : Bool) → end_of piece far ≤ 512

-- the slots have become pieces, which have room
pub record HaveRoom (template : TemplateView) (pieces : List Piece) : Type 0 where
  pub size : length pieces ≡ length template.slots
  pub few : length template.slots ≤ 512
  pub small : All IsSmall pieces
  pub room : room template pieces (length template.atoms) ≤ 512

-- the ends of the bond are two atoms of the template
pub record IsWithin (template : TemplateView) (bond : QueryBond) : Type 0 where
  pub first : (1 ≤ bond.first) × (bond.first ≤ length template.atoms)
  pub second : (1 ≤ bond.second) × (bond.second ≤ length template.atoms)
  pub differ : bond.first ≢ bond.second

-- the slot stands at an atom of the template
abbrev pub StandsAt : TemplateView → Slot → Type 0
StandsAt template slot = (1 ≤ slot_atom slot) × (slot_atom slot ≤ length template.atoms)

-- both ends are among so many atoms
pub record AreEndsWithin (count : ℕ) (bond : QueryBond) : Type 0 where
  pub first : (1 ≤ bond.first) × (bond.first ≤ count)
  pub second : (1 ≤ bond.second) × (bond.second ≤ count)

-- there is such a template, and its size is at most 512
pub record IsSmallTemplate (query : QueryView) (t : ℕ) : Type 0 where
  pub there : t < length query.templates
  pub size : ℕ → ℕ
  pub adds_up : IsSizing query size
  pub small : size t ≤ 512
