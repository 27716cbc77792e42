-- For the code alone: marks that are added, round by round.
--     StayWithin bonds old new          a closed set that held the old marks holds the new ones
--     Follows bonds marks b             a closed set that holds the marks holds the bond
--     Spreads bonds old new             the old marks, and others that follow from them
--     IsDone bonds marks b              the bond is marked, or it closes no six-ring with the marks
--     Grows bonds old new found         marks that follow from the old ones were added, or none
--     AllBelow bound list               each number of the list is below the bound
use Rattle.std.specs.Prelude.{◌≡◌, ◌≤◌, ◌<◌, ◌⊎◌, ℕ, Bool, false, List, IsTrue, length, slice_index}
use Rattle.mk_model.specs.declared.edge.Edge.{Edge}
use Rattle.mk_model.specs.Aromatic.{IsClosed}
use Rattle.mk_marks.specs.Marks.{IsMarked}
use Rattle.mk_marks.specs.SixRings.{ClosesRing, LieIn, set_of, unmarked}

-- each closed set that the old marks lie in holds the new ones
abbrev pub StayWithin : List Edge → List Bool → List Bool → Type 0
StayWithin bonds old new = (set : ℕ → Bool) → IsClosed bonds set → LieIn set old → LieIn set new

-- each closed set that the marks lie in holds the bond
abbrev pub Follows : List Edge → List Bool → ℕ → Type 0
Follows bonds marks b = (set : ℕ → Bool) → IsClosed bonds set → LieIn set marks → IsTrue (set b)

-- the old marks, and others that each closed set holds that held the old ones
pub record Spreads (bonds : List Edge) (old new : List Bool) : Type 0 where
  pub kept : (b : ℕ) → IsMarked old b → IsMarked new b
  pub within : StayWithin bonds old new
  pub no_more : unmarked new ≤ unmarked old

-- marks that follow from the old ones were added where some were found, and none where not
pub record Grows (bonds : List Edge) (old new : List Bool) (found : Bool) : Type 0 where
  pub spreads : Spreads bonds old new
  pub more : IsTrue found → unmarked new < unmarked old
  pub same : found ≡ false → new ≡ old

-- the bond is marked, or it closes no six-ring with the marks
abbrev pub IsDone : List Edge → List Bool → ℕ → Type 0
IsDone bonds marks b = IsMarked marks b ⊎ ¬ (ClosesRing bonds (set_of marks) b)

-- each number of the list is below the bound
abbrev pub AllBelow : ℕ → List ℕ → Type 0
AllBelow bound list = (i : ℕ) → i < length list → slice_index list i < bound
