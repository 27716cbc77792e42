-- What is demanded of the bonds of any table, and its bonds as the definitions of graphs see them.
-- Atoms and bonds count from 1.
--     HasTwoEnds atoms bond                between two of the atoms
--     IsNewBond atoms earlier bond         between two of the atoms that no earlier bond joins
--     IsNewBondAt atoms bonds item         the bond of this number is new
--     HasFewBonds atoms edges item         the atom of this number has at most 20 bonds
--     edges_of bonds                       the bonds as the definitions of graphs see them
--     IsEdgeFront atoms bonds edges        the edges of the bonds before the first whose ends
--                                          aren't two atoms
use Rattle.std.specs.Prelude.{◌≡◌, ◌≢◌, ◌≤◌, ◌<◌, ◌+◌, ◌-◌, ◌⊎◌, ℕ, List, All, length, map, take}
use Rattle.mk_text.specs.Items.{OfItem}
use Rattle.mk_model.specs.declared.edge.Edge.{Edge}
use Rattle.mk_model.specs.Edges.{AreBetween, degree}
use Rattle.mk_tables.specs.declared.raw.RawBond.{RawBond}
use Rattle.mk_demands.specs.Numbers.{IsAtom, natural, byte}

-- the ends are two of so many atoms
pub record HasTwoEnds (atoms : ℕ) (bond : RawBond) : Type 0 where
  pub first : IsAtom atoms bond.first
  pub second : IsAtom atoms bond.second
  pub differ : bond.first ≢ bond.second

-- the bonds join the same two atoms, in the same order or in the other
abbrev pub JoinSame : RawBond → RawBond → Type 0
JoinSame a b = ((a.first ≡ b.first) × (a.second ≡ b.second)) ⊎ ((a.first ≡ b.second) × (a.second ≡ b.first))

-- the ends are two atoms that none of the earlier bonds joins
pub record IsNewBond (atoms : ℕ) (earlier : List RawBond) (bond : RawBond) : Type 0 where
  pub ends : HasTwoEnds atoms bond
  pub new : All (λ other. ¬ (JoinSame other bond)) earlier

-- the bond of this number, where there is one, is new
abbrev pub IsNewBondAt : ℕ → List RawBond → ℕ → Type 0
IsNewBondAt atoms bonds item = OfItem (IsNewBond atoms (take (item - 1) bonds)) bonds item

-- the atom of this number, where there is one, has at most 20 bonds
abbrev pub HasFewBonds : ℕ → List Edge → ℕ → Type 0
HasFewBonds atoms edges item = 1 ≤ item → item ≤ atoms → degree edges item ≤ 20

-- ---- as edges

-- The bond as the definitions of graphs see it. A number below 0 is 0 there, and so is a type above
-- 255: no atom and no type that passes has it.
abbrev pub raw_edge : RawBond → Edge
raw_edge bond = record { first = natural bond.first; second = natural bond.second; kind = byte bond.kind }

-- the bonds as the definitions of graphs see them
abbrev pub edges_of : List RawBond → List Edge
edges_of bonds = map raw_edge bonds

-- the edges of the bonds before the first whose ends aren't two atoms
pub record IsEdgeFront (atoms : ℕ) (bonds : List RawBond) (edges : List Edge) : Type 0 where
  pub few : length edges ≤ length bonds
  pub edges_are : edges ≡ edges_of (take (length edges) bonds)
  pub ends : All (HasTwoEnds atoms) (take (length edges) bonds)
  pub between : AreBetween atoms edges
  pub stops : length edges < length bonds → ¬ (OfItem (HasTwoEnds atoms) bonds (length edges + 1))
