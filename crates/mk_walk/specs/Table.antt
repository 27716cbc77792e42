-- Which atom of a graph may lie on which atom of a molecule, as a table. This file serves the code
-- alone.
--     MayLie graph mol x m               atom x accepts atom m, which has as many bonds at least
--     cell mol x m                       the place of the two in the table
--     IsTable graph mol fits             each cell of the table says whether the one may lie on the
--                                        other
--     AreAlike graph y x                 the two atoms ask for the same, and for nothing around them
--     IsLonely graph mol x m             atom x may lie on none of the first m atoms of the molecule
use Rattle.std.specs.Prelude.{◌≡◌, ◌≤◌, ◌+◌, ◌*◌, ◌-◌, ◌↔◌, ℕ, pos, Bool, false, List, Some, length, slice_get, slice_index_or, IsTrue}
use Rattle.mk_model.specs.Edges.{numbers_at}
use Rattle.mk_model.specs.Molecules.{Molecule, edges}
use Rattle.mk_model.specs.Graphs.{GraphView, graph_edges}
use Rattle.mk_model.specs.Fitting.{FitsAtom}
use Rattle.mk_model.specs.declared.atom_test.AtomTest.{AtomTest}
use Rattle.mk_model.specs.declared.graph.GraphAtom.{GraphAtom}

-- atom x of the graph accepts atom m of the molecule, which has at least as many bonds
pub record MayLie (graph : GraphView) (mol : Molecule) (x m : ℕ) : Type 0 where
  pub fits : FitsAtom graph mol x m
  pub bonded : length (numbers_at (graph_edges graph.bonds) x) ≤ length (numbers_at (edges mol.bonds) m)

-- the place of atom x and atom m in a table with a row for each atom of the graph
abbrev pub cell : Molecule → ℕ → ℕ → ℕ
cell mol x m = (x - 1) * length mol.atoms + (m - 1)

-- the first rows of the table say on which atoms of the molecule each of the first atoms of the
-- graph may lie
pub record AreRows (graph : GraphView) (mol : Molecule) (rows : ℕ) (fits : List Bool) : Type 0 where
  pub size : length fits ≡ rows * length mol.atoms
  pub says : (x m : ℕ) → 1 ≤ x → x ≤ rows → 1 ≤ m → m ≤ length mol.atoms → IsTrue (slice_index_or fits (cell mol x m) false) ↔ MayLie graph mol x m

-- the table has a row for each atom of the graph
abbrev pub IsTable : GraphView → Molecule → List Bool → Type 0
IsTable graph mol fits = AreRows graph mol (length graph.atoms) fits

-- atom x of the graph may lie on none of the first atoms of the molecule
abbrev pub IsLonely : GraphView → Molecule → ℕ → ℕ → Type 0
IsLonely graph mol x m = (n : ℕ) → 1 ≤ n → n ≤ m → MayLie graph mol x n → ⊥

-- no column asks for a number of neighbours
abbrev pub AsksNothingAround : AtomTest → Type 0
AsksNothingAround test = (test.hydrogens ≡ 0) × (test.ring_bonds ≡ pos 0) × (test.substitution ≡ pos 0)

-- the two ask for the same of an atom, and for nothing around it
pub record AreTestsAlike (first second : AtomTest) : Type 0 where
  pub kind : first.kind ≡ second.kind
  pub charge : first.charge ≡ second.charge
  pub radical : first.radical ≡ second.radical
  pub unsaturated : first.unsaturated ≡ second.unsaturated
  pub first_alone : AsksNothingAround first
  pub second_alone : AsksNothingAround second

-- the two atoms of the graph ask for the same, and have as many bonds
pub record AreAlike (graph : GraphView) (y x : ℕ) : Type 0 where
  pub first : GraphAtom
  pub second : GraphAtom
  pub first_at : slice_get graph.atoms (y - 1) ≡ Some first
  pub second_at : slice_get graph.atoms (x - 1) ≡ Some second
  pub tests : AreTestsAlike first.test second.test
  pub bonds : length (numbers_at (graph_edges graph.bonds) y) ≡ length (numbers_at (graph_edges graph.bonds) x)
