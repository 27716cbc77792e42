-- Pieces: what the slots of a template become by a choice, and where its atoms then stand.
--     Fragment                      what a template becomes: atoms, bonds, and the atoms with its
--                                   attachment points
--     Piece                         what a slot becomes: copies, a member's fragment, hydrogens, or
--                                   nothing
-- For a template whose slots have become these pieces, in order:
--     taker template x              the number of the slot that takes atom x
--     piece template pieces x       what atom x becomes
--     before template pieces x      how many atoms of the expansion stand before those
--     ending template pieces x y    the atom at which the bond from x to y ends on the side of x
use Rattle.std.specs.Prelude.{◌+◌, ◌-◌, ◌==◌, ◌&&◌, ℕ, zero, suc, Bool, false, List, [], ◌∷◌, Option, Some, None, length, slice_get, slice_index, slice_index_or, sum_by, if◌then◌else◌}
use Rattle.std.specs.List.{range_with_len}
use Rattle.mk_model.specs.declared.graph.GraphAtom.{GraphAtom}
use Rattle.mk_model.specs.declared.template.QueryBond.{QueryBond}
use Rattle.mk_model.specs.declared.template.Slot.{Slot}
use Rattle.mk_model.specs.declared.template.Slot.TheVariants.{Link, Site}
use Rattle.mk_model.specs.Templates.{TemplateView}
use Rattle.mk_model.specs.Sizes.{takes_atom}

-- what a template becomes: its atoms, its bonds in any order, and the atoms with attachment point 1
-- and 2
pub record Fragment : Type 0 where
  pub atoms : List GraphAtom
  pub bonds : List QueryBond
  pub points : List ℕ

-- A slot becomes so many copies of each atom that it takes, where it is a link; the fragment of the
-- member that fills it; so many hydrogens; or nothing.
pub data Piece : Type 0 where
  Copies : ℕ → Piece
  Member : Fragment → Piece
  Hydrogens : ℕ → Piece
  Nothing : Piece

-- the numbers 1 to n
abbrev pub numbers_to : ℕ → List ℕ
numbers_to n = range_with_len 1 n

-- ---- what an atom becomes

-- the number of the first of these slots that takes atom x, where they are numbered from k on; 0
-- where none does
abbrev pub taker_from : TemplateView → ℕ → List Slot → ℕ → ℕ
taker_from template k [] x = 0
taker_from template k (slot ∷ slots) x =
    let later = taker_from template (k + 1) slots x in
    if takes_atom template x slot then k else later

-- the number of the slot that takes atom x: the one at it, or the link in whose block it is; 0
-- where it is fixed
unfoldable pub taker : TemplateView → ℕ → ℕ
taker template x = taker_from template 1 template.slots x

-- what slot number k has become; one copy where there is no slot
abbrev pub piece_numbered : List Piece → ℕ → Piece
piece_numbered pieces zero = Copies 1
piece_numbered pieces (suc k) = slice_index_or pieces k (Copies 1)

-- what atom x becomes: what the slot that takes it has become, and one copy where it is fixed
abbrev pub piece : TemplateView → List Piece → ℕ → Piece
piece template pieces x = piece_numbered pieces (taker template x)

-- how many atoms a piece has for each atom that its slot takes
abbrev pub width : Piece → ℕ
width (Copies n) = n
width (Member part) = length part.atoms
width (Hydrogens n) = n
width Nothing = 0

-- how many atoms the first n atoms become
unfoldable pub room : TemplateView → List Piece → ℕ → ℕ
room template pieces n = sum_by (λ x. width (piece template pieces x)) (numbers_to n)

-- how many atoms of the expansion stand before those that atom x becomes
abbrev pub before : TemplateView → List Piece → ℕ → ℕ
before template pieces x = room template pieces (x - 1)

-- ---- where a bond ends

-- the slot stands at x, and y is its second neighbour: the bond between them is at the far end of
-- the slot
abbrev pub is_far : Slot → ℕ → ℕ → Bool
is_far (Link atom most from to) x y = (atom == x) && (to == y)
is_far (Site atom groups first second) x y = (atom == x) && (second == y)

-- slot number k stands at x, and y is its second neighbour; where there is no slot no end is far
abbrev pub is_far_of : List Slot → ℕ → ℕ → ℕ → Bool
is_far_of slots zero x y = false
is_far_of slots (suc k) x y = far (slice_get slots k)
  where
    far : Option Slot → Bool
    far None = false
    far (Some slot) = is_far slot x y

-- The near or the far end of a piece: the first or the last copy, the member's atom with attachment
-- point 1 or 2, the first or the second hydrogen.
abbrev pub end_of : Piece → Bool → ℕ
end_of (Copies n) far = if far then n else 1
end_of (Member part) far = slice_index part.points (if far then 1 else 0)
end_of (Hydrogens n) far = if far then 2 else 1
end_of Nothing far = 0

-- the atom of the expansion at which the bond from x to y ends on the side of x
unfoldable pub ending : TemplateView → List Piece → ℕ → ℕ → ℕ
ending template pieces x y =
    before template pieces x + end_of (piece template pieces x) (is_far_of template.slots (taker template x) x y)
