-- Graphs of queries as their lists.
--     GraphView             what is seen of a `Graph`: its atoms and its bonds
--     graph_edges bonds     the bonds without their tests and marks
--     IsBefore bond later   the order of bonds in a graph
--     IsUnmarked graph      the conditions of a graph but for the marks of its bonds
--     IsGraph graph         what every `Graph` keeps
use Rattle.std.specs.Prelude.{◌≡◌, ◌≤◌, ◌<◌, ◌↔◌, ℕ, List, Some, length, map, slice_get, All, AllPairs, IsTrue}
use Rattle.mk_model.specs.declared.edge.Edge.{Edge}
use Rattle.mk_model.specs.declared.graph.GraphAtom.{GraphAtom}
use Rattle.mk_model.specs.declared.graph.GraphBond.{GraphBond}
use Rattle.mk_model.specs.Edges.{IsEdgeBefore, IsSimple, rows_of}
use Rattle.mk_model.specs.Rings.{IsRingBond}
use Rattle.mk_model.specs.Aromatic.{IsAromatic}
use Rattle.mk_model.specs.Tests.{IsTestInRange, IsBondInRange}

-- what is seen of a `Graph`: its atoms and its bonds
pub record GraphView : Type 0 where
  pub atoms : List GraphAtom
  pub bonds : List GraphBond

-- a bond without its test and its marks
abbrev pub graph_edge : GraphBond → Edge
graph_edge bond = record { first = bond.first; second = bond.second; kind = bond.kind }

-- the bonds of a graph without their tests and marks
abbrev pub graph_edges : List GraphBond → List Edge
graph_edges bonds = map graph_edge bonds

-- a bond of a graph, whose lower end is its first, stands before another: by the lower ends, then
-- by the higher ends
abbrev pub IsBefore : GraphBond → GraphBond → Type 0
IsBefore bond later = IsEdgeBefore (graph_edge bond) (graph_edge later)

-- the marks of the bond at place b are those of the definitions, taken over the graph's own bonds
pub record HasGraphMarks (bonds : List Edge) (b : ℕ) (bond : GraphBond) : Type 0 where
  pub ring : IsTrue bond.ring ↔ IsRingBond bonds b
  pub aromatic : IsTrue bond.aromatic ↔ IsAromatic bonds b

-- The conditions of a graph but for its marks: at most 512 atoms, all tests in range, each bond
-- with its lower end first, the bonds in order, and no pair twice.
pub record IsUnmarked (seen : GraphView) : Type 0 where
  pub few : length seen.atoms ≤ 512
  pub tests : All (λ atom. IsTestInRange atom.test) seen.atoms
  pub bond_tests : All (λ bond. IsBondInRange bond.kind bond.topology) seen.bonds
  pub graph : IsSimple (length seen.atoms) (graph_edges seen.bonds)
  pub lower_first : All (λ bond. bond.first < bond.second) seen.bonds
  pub order : AllPairs IsBefore seen.bonds

-- what every `Graph` keeps: the conditions of a graph without its marks, and each bond has the
-- marks of the definitions
pub record IsGraph (seen : GraphView) : Type 0 where
  pub sketch : IsUnmarked seen
  pub marks : (b : ℕ) (bond : GraphBond) → slice_get seen.bonds b ≡ Some bond → HasGraphMarks (graph_edges seen.bonds) b bond

-- ---- for the code

-- what a `Graph` keeps beside: the lists of its atoms' bonds
pub record IsKeptGraph (seen : GraphView) (kept : List (List ℕ)) : Type 0 where
  pub holds : IsGraph seen
  pub rows : kept ≡ rows_of (length seen.atoms) (graph_edges seen.bonds)
