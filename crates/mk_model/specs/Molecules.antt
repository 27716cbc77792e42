-- Molecules as their lists.
--     Molecule            what is seen of a `Mol`
--     edges bonds         the bonds without their marks
--     IsMolecule mol      what every `Mol` keeps
--     IsBondOf mol a b bond       the bond is one of the molecule's, and joins the atoms a and b
use Rattle.std.specs.Prelude.{◌≡◌, ◌≤◌, ◌<◌, ◌^◌, ◌↔◌, ◌-◌, ℕ, List, Option, Some, None, length, map, slice_get, slice_index, slice_index_or, All, Contains, IsTrue}
use Rattle.mk_model.specs.declared.edge.Edge.{Edge}
use Rattle.mk_model.specs.declared.molecule.Atom.{Atom}
use Rattle.mk_model.specs.declared.molecule.MolBond.{MolBond}
use Rattle.mk_model.specs.Edges.{HasEnds, IsSimple, rows_of}
use Rattle.mk_model.specs.Rings.{IsRingBond}
use Rattle.mk_model.specs.Aromatic.{IsAromatic}

-- what is seen of a `Mol`: how many atoms were written, all atoms, and all bonds
pub record Molecule : Type 0 where
  pub written : ℕ
  pub atoms : List Atom
  pub bonds : List MolBond

-- a bond of a molecule without its marks
abbrev pub edge_of : MolBond → Edge
edge_of bond = record { first = bond.first; second = bond.second; kind = bond.kind }

-- the bonds of a molecule without their marks
abbrev pub edges : List MolBond → List Edge
edges bonds = map edge_of bonds

-- the number is the atomic number of an element
abbrev pub IsElement : ℕ → Type 0
IsElement z = (1 ≤ z) × (z ≤ 118)

-- the marks of the bond at place b are those of the definitions
pub record HasMarks (bonds : List Edge) (b : ℕ) (bond : MolBond) : Type 0 where
  pub ring : IsTrue bond.ring ↔ IsRingBond bonds b
  pub aromatic : IsTrue bond.aromatic ↔ IsAromatic bonds b

-- the lists are a molecule: the written atoms stand first, elements and ends are in range, and the
-- marks are right
pub record IsMolecule (mol : Molecule) : Type 0 where
  pub written : mol.written ≤ length mol.atoms
  pub few_atoms : length mol.atoms < 2 ^ 32
  pub few_bonds : length mol.bonds < 2 ^ 32
  pub elements : All (λ atom. IsElement atom.element) mol.atoms
  pub graph : IsSimple (length mol.atoms) (edges mol.bonds)
  pub marks : (b : ℕ) (bond : MolBond) → slice_get mol.bonds b ≡ Some bond → HasMarks (edges mol.bonds) b bond

-- the bond is one of the molecule's, and joins the atoms a and b
abbrev pub IsBondOf : Molecule → ℕ → ℕ → MolBond → Type 0
IsBondOf mol a b bond = Contains mol.bonds bond × HasEnds (edge_of bond) a b

-- ---- for the code

-- what a `Mol` keeps beside: the lists of its atoms' bonds
pub record IsKept (mol : Molecule) (kept : List (List ℕ)) : Type 0 where
  pub molecule : IsMolecule mol
  pub rows : kept ≡ rows_of (length mol.atoms) (edges mol.bonds)

-- the bond joins a and b and is one of those numbered; none where none of them does
abbrev pub BondAmong : List MolBond → List ℕ → ℕ → ℕ → Option MolBond → Type 0
BondAmong bonds numbers a b None =
    (i : ℕ) (bond : MolBond) → i < length numbers → ¬ (HasEnds (edge_of (slice_index_or bonds (slice_index numbers i - 1) bond)) a b)
BondAmong bonds numbers a b (Some bond) = Contains bonds bond × HasEnds (edge_of bond) a b
