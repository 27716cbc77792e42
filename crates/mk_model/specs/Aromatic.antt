-- The aromatic set: the least set of bonds that holds every bond of type 4 and is closed under the
-- rule on six-rings.
--     IsSixCycle bonds atoms cycle      six distinct atoms in a cycle, and the bonds from each to
--                                       the next
--     Takes bonds set b label           the bond is in the set already or has the type of the label
--     IsClosed bonds set                the set holds every bond of type 4, and the six-ring rule
--                                       adds none
--     IsAromatic bonds b                the bond is in each closed set, and so in the least one
use Rattle.std.specs.Prelude.{◌≡◌, ◌<◌, ◌+◌, ◌%◌, ◌⊎◌, ℕ, Bool, List, IsTrue}
use Rattle.mk_model.specs.declared.edge.Edge.{Edge}
use Rattle.mk_model.specs.Edges.{Joins, HasKind}

-- six distinct atoms, from 0 to 5, stand in a cycle, and these bonds join each to the next and the
-- last to the first
pub record IsSixCycle (bonds : List Edge) (atoms : ℕ → ℕ) (cycle : ℕ → ℕ) : Type 0 where
  pub distinct : (i j : ℕ) → i < 6 → j < 6 → atoms i ≡ atoms j → i ≡ j
  pub joined : (i : ℕ) → i < 6 → Joins bonds (cycle i) (atoms i) (atoms ((i + 1) % 6))

-- the bond at place b is in the set already, or has the type of the label
abbrev pub Takes : List Edge → (ℕ → Bool) → ℕ → ℕ → Type 0
Takes bonds set b label = IsTrue (set b) ⊎ HasKind bonds b label

-- the six bonds can be labelled alternately 1, 2, 1, 2, 1, 2
abbrev pub TakesLabels : List Edge → (ℕ → Bool) → (ℕ → ℕ) → Type 0
TakesLabels bonds set cycle = (i : ℕ) → i < 6 → Takes bonds set (cycle i) (1 + i % 2)

-- the set holds every bond of type 4, and all six bonds of each six-ring that takes the labels
pub record IsClosed (bonds : List Edge) (set : ℕ → Bool) : Type 0 where
  pub type_four : (b : ℕ) → HasKind bonds b 4 → IsTrue (set b)
  pub six_rings : (atoms cycle : ℕ → ℕ) → IsSixCycle bonds atoms cycle → TakesLabels bonds set cycle → (i : ℕ) → i < 6 → IsTrue (set (cycle i))

-- the bond at place b is in each closed set, and so in the least one
abbrev pub IsAromatic : List Edge → ℕ → Type 0
IsAromatic bonds b = (set : ℕ → Bool) → IsClosed bonds set → IsTrue (set b)
