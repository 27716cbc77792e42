-- Laws over the marks of bonds.
--     AreMarksOf bonds rings aromatics      which of the bonds are ring bonds, and which are in the
--                                           aromatic set
--     EdgesHaveMarks         a simple list of edges has marks by the definitions
--     OneListOfMarks         and one list of marks alone
--     MolBondsHaveMarks      edges of a molecule are those of bonds with the marks of the
--                            definitions
--     GraphBondsHaveMarks    bonds of a graph are those of bonds with the marks of the definitions
--     OneListOfMolBonds      edges have one list of bonds of a molecule with the marks of the
--                            definitions
--     OneListOfGraphBonds    bonds of a graph have one list with the marks of the definitions
use Rattle.std.specs.Prelude.{◌≡◌, ℕ, Bool, List, Some, slice_get}
use Rattle.mk_model.specs.declared.edge.Edge.{Edge}
use Rattle.mk_model.specs.declared.molecule.MolBond.{MolBond}
use Rattle.mk_model.specs.declared.graph.GraphBond.{GraphBond}
use Rattle.mk_model.specs.Aromatic.{IsAromatic}
use Rattle.mk_model.specs.Edges.{IsSimple}
use Rattle.mk_model.specs.Graphs.{HasGraphMarks, graph_edges}
use Rattle.mk_model.specs.Molecules.{HasMarks, edges}
use Rattle.mk_model.specs.Rings.{IsRingBond}
use Rattle.mk_marks.specs.Bare.{bare_bonds}
use Rattle.mk_marks.specs.Marks.{Marks}

-- ---- edges

-- the first marks say of each bond whether it is a ring bond, the second ones whether it is in the
-- aromatic set
pub record AreMarksOf (bonds : List Edge) (rings aromatics : List Bool) : Type 0 where
  pub ring : Marks (IsRingBond bonds) bonds rings
  pub aromatic : Marks (IsAromatic bonds) bonds aromatics

-- a simple list of edges has marks by the definitions
abbrev pub EdgesHaveMarks : Type 0
EdgesHaveMarks =
    (atoms : ℕ) (bonds : List Edge) → IsSimple atoms bonds
    → (rings : List Bool) × (aromatics : List Bool) × AreMarksOf bonds rings aromatics

-- marks of one list of edges by the definitions are one
abbrev pub OneListOfMarks : Type 0
OneListOfMarks =
    (bonds : List Edge) (rings aromatics rings' aromatics' : List Bool)
    → AreMarksOf bonds rings aromatics → AreMarksOf bonds rings' aromatics'
    → (rings ≡ rings') × (aromatics ≡ aromatics')

-- ---- bonds that keep their marks

-- each bond of the list has the marks of the definitions
abbrev pub AreMarked : List MolBond → Type 0
AreMarked bonds = (b : ℕ) (bond : MolBond) → slice_get bonds b ≡ Some bond → HasMarks (edges bonds) b bond

-- each bond of a graph has the marks of the definitions
abbrev pub AreGraphMarked : List GraphBond → Type 0
AreGraphMarked bonds = (b : ℕ) (bond : GraphBond) → slice_get bonds b ≡ Some bond → HasGraphMarks (graph_edges bonds) b bond

-- a simple list of edges is that of bonds of a molecule with the marks of the definitions
abbrev pub MolBondsHaveMarks : Type 0
MolBondsHaveMarks =
    (atoms : ℕ) (plain : List Edge) → IsSimple atoms plain
    → (bonds : List MolBond) × (edges bonds ≡ plain) × AreMarked bonds

-- bonds of a graph whose edges are simple have others that are the same without their marks, with
-- the marks of the definitions
abbrev pub GraphBondsHaveMarks : Type 0
GraphBondsHaveMarks =
    (atoms : ℕ) (drawn : List GraphBond) → IsSimple atoms (graph_edges drawn)
    → (bonds : List GraphBond) × (bare_bonds bonds ≡ bare_bonds drawn) × AreGraphMarked bonds

-- two lists of marked bonds that are the same edges are one list
abbrev pub OneListOfMolBonds : Type 0
OneListOfMolBonds = (bonds others : List MolBond) → AreMarked bonds → AreMarked others → edges bonds ≡ edges others → bonds ≡ others

-- two lists of marked bonds of a graph that are the same without their marks are one list
abbrev pub OneListOfGraphBonds : Type 0
OneListOfGraphBonds = (bonds others : List GraphBond) → AreGraphMarked bonds → AreGraphMarked others → bare_bonds bonds ≡ bare_bonds others → bonds ≡ others
