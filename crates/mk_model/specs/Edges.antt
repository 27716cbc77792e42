-- Bonds as a list: atoms count from 1, places in the list from 0, and the bond at place b has the
-- number b + 1.
--     HasEnds edge x y          the bond's ends are x and y, in either order
--     Joins bonds b x y         the bond at place b joins x and y
--     HasKind bonds b kind      the bond at place b has this type
--     AreBetween atoms bonds    ends are atoms and differ
--     IsEdgeBefore edge later   the order of bonds: by their first ends, then by their second ends
--     other_end n edge          the end that isn't atom n
--     IsSimple atoms bonds      ends are atoms and differ, and no two bonds join one pair
--     touches n edge            the bond ends at atom n
--     degree bonds n            how many bonds end at atom n
--     numbers_at bonds n        the numbers of the bonds of atom n, rising
--     rows_of atoms bonds       the lists of all atoms
use Rattle.std.specs.Prelude.{◌≡◌, ◌≢◌, ◌≤◌, ◌<◌, ◌+◌, ◌==◌, ◌||◌, ◌⊎◌, Bool, ℕ, zero, suc, List, [], ◌∷◌, ◌++◌, Some, All, count_by, slice_get, if◌then◌else◌}
use Rattle.mk_model.specs.declared.edge.Edge.{Edge}

-- the bond's ends are x and y, in either order
abbrev pub HasEnds : Edge → ℕ → ℕ → Type 0
HasEnds edge x y = ((edge.first ≡ x) × (edge.second ≡ y)) ⊎ ((edge.first ≡ y) × (edge.second ≡ x))

-- a bond stands before another whose first end is higher, or the same and its second end higher
abbrev pub IsEdgeBefore : Edge → Edge → Type 0
IsEdgeBefore edge later = (edge.first < later.first) ⊎ ((edge.first ≡ later.first) × (edge.second < later.second))

-- the end of a bond that isn't atom n
abbrev pub other_end : ℕ → Edge → ℕ
other_end n edge = if edge.first == n then edge.second else edge.first

-- the bond at place b joins x and y
pub record Joins (bonds : List Edge) (b x y : ℕ) : Type 0 where
  pub edge : Edge
  pub at : slice_get bonds b ≡ Some edge
  pub ends : HasEnds edge x y

-- the bond at place b has this type
pub record HasKind (bonds : List Edge) (b kind : ℕ) : Type 0 where
  pub edge : Edge
  pub at : slice_get bonds b ≡ Some edge
  pub is : edge.kind ≡ kind

-- both ends are among this many atoms, and they differ
pub record IsBetween (atoms : ℕ) (edge : Edge) : Type 0 where
  pub first : (1 ≤ edge.first) × (edge.first ≤ atoms)
  pub second : (1 ≤ edge.second) × (edge.second ≤ atoms)
  pub differ : edge.first ≢ edge.second

-- every bond is between two of the atoms
abbrev pub AreBetween : ℕ → List Edge → Type 0
AreBetween atoms bonds = All (IsBetween atoms) bonds

-- every bond is between two of the atoms, and no two bonds join one pair
pub record IsSimple (atoms : ℕ) (bonds : List Edge) : Type 0 where
  pub ends : AreBetween atoms bonds
  pub once : (b c x y : ℕ) → Joins bonds b x y → Joins bonds c x y → b ≡ c

-- the bond ends at atom n
abbrev pub touches : ℕ → Edge → Bool
touches n edge = edge.first == n || edge.second == n

-- how many bonds end at atom n
abbrev pub degree : List Edge → ℕ → ℕ
degree bonds n = count_by (touches n) bonds

-- the numbers of the bonds of atom n, rising, where the first bond of the list has the number k
abbrev pub numbers_from : ℕ → List Edge → ℕ → List ℕ
numbers_from k [] n = []
numbers_from k (edge ∷ bonds) n =
    let later = numbers_from (k + 1) bonds n in
    if touches n edge then k ∷ later else later

-- the numbers of the bonds of atom n, rising
abbrev pub numbers_at : List Edge → ℕ → List ℕ
numbers_at bonds n = numbers_from 1 bonds n

-- for each of the first atoms, the numbers of its bonds
unfoldable pub rows_of : ℕ → List Edge → List (List ℕ)
rows_of zero bonds = []
rows_of (suc n) bonds = rows_of n bonds ++ numbers_at bonds (suc n) ∷ []
