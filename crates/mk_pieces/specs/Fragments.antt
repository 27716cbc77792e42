-- For the code: what is true of each fragment that a template becomes.
--     AreApart bond later       two bonds, each with its lower end first, don't join one pair
--     bare bond                 the bond as one of a graph, without marks
--     HasOrdered bonds drawn    the drawn bonds are these, in order
--     IsFragment part           tests and ends in range, no pair twice
use Rattle.std.specs.Prelude.{◌≡◌, ◌≤◌, ◌<◌, ℕ, false, List, length, All, AllPairs, Contains}
use Rattle.mk_model.specs.declared.graph.GraphBond.{GraphBond}
use Rattle.mk_model.specs.declared.template.QueryBond.{QueryBond}
use Rattle.mk_model.specs.Graphs.{IsBefore}
use Rattle.mk_model.specs.Pieces.{Fragment}
use Rattle.mk_model.specs.Tests.{IsBondInRange, IsTestInRange}

-- two bonds, each with its lower end first, don't join one pair
abbrev pub AreApart : QueryBond → QueryBond → Type 0
AreApart bond later = bond.first ≡ later.first → bond.second ≡ later.second → ⊥

-- the bond as one of a graph, without marks
abbrev pub bare : QueryBond → GraphBond
bare bond = record {
  first = bond.first;
  second = bond.second;
  kind = bond.kind;
  topology = bond.topology;
  ring = false;
  aromatic = false;
}

-- the drawn bonds are the bonds as those of a graph, without marks, and stand in order
pub record HasOrdered (bonds : List QueryBond) (drawn : List GraphBond) : Type 0 where
  pub order : AllPairs IsBefore drawn
  pub each : (d : GraphBond) → Contains drawn d → (bond : QueryBond) × Contains bonds bond × (bare bond ≡ d)
  pub all : (bond : QueryBond) → Contains bonds bond → Contains drawn (bare bond)

-- the bond's type and topology are in range
abbrev pub HasRange : QueryBond → Type 0
HasRange bond = IsBondInRange bond.kind bond.topology

-- the bond has its lower end first, among so many atoms
pub record IsLowerFirst (atoms : ℕ) (bond : QueryBond) : Type 0 where
  pub least : 1 ≤ bond.first
  pub less : bond.first < bond.second
  pub most : bond.second ≤ atoms

-- tests in range, ends and points among the atoms, and no pair twice
pub record IsFragment (part : Fragment) : Type 0 where
  pub tests : All (λ atom. IsTestInRange atom.test) part.atoms
  pub bond_tests : All HasRange part.bonds
  pub ends : All (IsLowerFirst (length part.atoms)) part.bonds
  pub apart : AllPairs AreApart part.bonds
  pub points : All (λ x. (1 ≤ x) × (x ≤ length part.atoms)) part.points
