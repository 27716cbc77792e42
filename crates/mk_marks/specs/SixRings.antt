-- For proofs and code: six-rings through a bond, step by step.
--     set_of marks                      the set that marks stand for
--     NotAmong atoms y                  y is none of the atoms
--     CanClose bonds set start path at label left     so many atoms further the path can be closed
--     ClosesRing bonds set b            a six-ring that takes the labels goes through bond b
--     LieIn set marks                   the bonds that are marked are in the set
--     unmarked marks                    how many bonds aren't marked
use Rattle.std.specs.Prelude.{◌≡◌, ◌≢◌, ◌<◌, ◌-◌, ◌⊎◌, ℕ, zero, suc, Bool, false, List, [], ◌∷◌, Some, IsTrue, length, count_by, not, slice_get, slice_index, slice_index_or}
use Rattle.mk_model.specs.declared.edge.Edge.{Edge}
use Rattle.mk_model.specs.Edges.{Joins}
use Rattle.mk_model.specs.Aromatic.{Takes}
use Rattle.mk_marks.specs.Marks.{IsMarked}

-- the set of the bonds that are marked
abbrev pub set_of : List Bool → ℕ → Bool
set_of marks b = slice_index_or marks b false

-- y is none of the atoms
abbrev pub NotAmong : List ℕ → ℕ → Type 0
NotAmong atoms y = (i : ℕ) → i < length atoms → slice_index atoms i ≢ y

-- The bond, which has the label, leads from the last atom of the path back to the start; or to a
-- new atom, from where the path can be closed so many atoms further, with the other label first.
abbrev pub ClosesBy : List Edge → (ℕ → Bool) → ℕ → List ℕ → ℕ → ℕ → ℕ → ℕ → Type 0
ClosesBy bonds set start path at label zero b = Joins bonds b at start × Takes bonds set b label
ClosesBy bonds set start path at label (suc left) b =
    (y : ℕ) × Joins bonds b at y × Takes bonds set b label × NotAmong path y × ((c : ℕ) × ClosesBy bonds set start (y ∷ path) y (3 - label) left c)

-- by some bond
abbrev pub CanClose : List Edge → (ℕ → Bool) → ℕ → List ℕ → ℕ → ℕ → ℕ → Type 0
CanClose bonds set start path at label left = (b : ℕ) × ClosesBy bonds set start path at label left b

-- a bond of type 1 or 2 from which the path over four more atoms can be closed
pub record ClosesRing (bonds : List Edge) (set : ℕ → Bool) (b : ℕ) : Type 0 where
  pub edge : Edge
  pub at : slice_get bonds b ≡ Some edge
  pub kind : (edge.kind ≡ 1) ⊎ (edge.kind ≡ 2)
  pub closes : CanClose bonds set edge.first (edge.second ∷ edge.first ∷ []) edge.second (3 - edge.kind) 4

-- the marks lie within the set
abbrev pub LieIn : (ℕ → Bool) → List Bool → Type 0
LieIn set marks = (b : ℕ) → IsMarked marks b → IsTrue (set b)

-- how many bonds aren't marked
abbrev pub unmarked : List Bool → ℕ
unmarked marks = count_by not marks
