-- Which atom and which bond of a molecule an atom and a bond of a graph may lie on.
--     passes_at test items n       the item of number n passes the test
--     count_at edge test bonds n   how many bonds of atom n pass the test
--     hydrogens_at mol m, others_at mol m, rings_at mol m     what is bonded to atom m, and its
--                                                             ring bonds
--     drawn_hydrogens graph x, drawn_others graph x, drawn_rings graph x     the same of atom x of
--                                                                            a graph
--     FitsAtom graph mol x m       atom x of the graph accepts atom m of the molecule
--     LiesOn mol asked a b         a bond of the molecule joins a and b and meets the test of a
--                                  bond of the graph
use Rattle.std.specs.Prelude.{◌≡◌, ◌==◌, ◌&&◌, ◌-◌, ℕ, Bool, false, not, List, Option, Some, None, slice_get, count_by, IsTrue}
use Rattle.std.specs.List.{list_any}
use Rattle.mk_model.specs.declared.atom_test.Kind.{Kind}
use Rattle.mk_model.specs.declared.atom_test.Kind.TheVariants.{Element}
use Rattle.mk_model.specs.declared.graph.GraphAtom.{GraphAtom}
use Rattle.mk_model.specs.declared.graph.GraphBond.{GraphBond}
use Rattle.mk_model.specs.declared.molecule.Atom.{Atom}
use Rattle.mk_model.specs.declared.molecule.MolBond.{MolBond}
use Rattle.mk_model.specs.declared.edge.Edge.{Edge}
use Rattle.mk_model.specs.Edges.{other_end, touches}
use Rattle.mk_model.specs.Molecules.{Molecule, IsBondOf, edge_of}
use Rattle.mk_model.specs.Graphs.{GraphView, graph_edge}
use Rattle.mk_model.specs.Tests.{accepts, charge_fits, radical_fits, hydrogens_fit, ring_bonds_fit, substitution_fits, unsaturation_fits, is_unsaturated, meets}

-- ---- by numbers, and around an atom

-- the item passes the test, where there is one
abbrev pub passes_some : {A : Type 0} → (A → Bool) → Option A → Bool
passes_some test None = false
passes_some test (Some item) = test item

-- the item of this number passes the test; items count from 1
abbrev pub passes_at : {A : Type 0} → (A → Bool) → List A → ℕ → Bool
passes_at test items number = passes_some test (slice_get items (number - 1))

-- how many of the bonds that end at atom n pass the test
abbrev pub count_at : {B : Type 0} → (B → Edge) → (B → Bool) → List B → ℕ → ℕ
count_at edge test bonds n = count_by (λ bond. touches n (edge bond) && test bond) bonds

-- ---- around an atom of a molecule

-- the atom of this number is hydrogen
abbrev pub is_hydrogen : List Atom → ℕ → Bool
is_hydrogen atoms n = passes_at (λ atom. atom.element == 1) atoms n

-- how many bonds of atom m lead to a hydrogen
abbrev pub hydrogens_at : Molecule → ℕ → ℕ
hydrogens_at mol m = count_at edge_of (λ bond. is_hydrogen mol.atoms (other_end m (edge_of bond))) mol.bonds m

-- how many bonds of atom m lead to an atom other than hydrogen
abbrev pub others_at : Molecule → ℕ → ℕ
others_at mol m = count_at edge_of (λ bond. not (is_hydrogen mol.atoms (other_end m (edge_of bond)))) mol.bonds m

-- how many ring bonds atom m of the molecule has
abbrev pub rings_at : Molecule → ℕ → ℕ
rings_at mol m = count_at edge_of (λ bond. bond.ring) mol.bonds m

-- some bond of atom m is unsaturated
abbrev pub is_unsaturated_at : Molecule → ℕ → Bool
is_unsaturated_at mol m = list_any (λ bond. touches m (edge_of bond) && is_unsaturated bond) mol.bonds

-- ---- around an atom of a graph

-- the kind is hydrogen and nothing else; a list that holds hydrogen isn't
abbrev pub is_hydrogen_kind : Kind → Bool
is_hydrogen_kind (Element z) = z == 1
is_hydrogen_kind _ = false

-- the atom of this number is drawn as a hydrogen
abbrev pub is_drawn_hydrogen : List GraphAtom → ℕ → Bool
is_drawn_hydrogen atoms n = passes_at (λ atom. is_hydrogen_kind atom.test.kind) atoms n

-- how many bonds of atom x lead to a drawn hydrogen
abbrev pub drawn_hydrogens : GraphView → ℕ → ℕ
drawn_hydrogens graph x = count_at graph_edge (λ bond. is_drawn_hydrogen graph.atoms (other_end x (graph_edge bond))) graph.bonds x

-- how many bonds of atom x lead to an atom that is no drawn hydrogen
abbrev pub drawn_others : GraphView → ℕ → ℕ
drawn_others graph x = count_at graph_edge (λ bond. not (is_drawn_hydrogen graph.atoms (other_end x (graph_edge bond)))) graph.bonds x

-- how many ring bonds atom x of the graph has
abbrev pub drawn_rings : GraphView → ℕ → ℕ
drawn_rings graph x = count_at graph_edge (λ bond. bond.ring) graph.bonds x

-- ---- an atom on an atom

-- every test of atom x of the graph is met by atom m of the molecule
pub record FitsAtom (graph : GraphView) (mol : Molecule) (x m : ℕ) : Type 0 where
  pub asked : GraphAtom
  pub asked_at : slice_get graph.atoms (x - 1) ≡ Some asked
  pub atom : Atom
  pub atom_at : slice_get mol.atoms (m - 1) ≡ Some atom
  pub kind : IsTrue (accepts asked.test.kind atom.element)
  pub charge : IsTrue (charge_fits asked.test.charge atom.charge)
  pub radical : IsTrue (radical_fits asked.test.radical atom.radical)
  pub hydrogens : IsTrue (hydrogens_fit asked.test.hydrogens (drawn_hydrogens graph x) asked.free (hydrogens_at mol m))
  pub ring_bonds : IsTrue (ring_bonds_fit asked.test.ring_bonds (drawn_rings graph x) (rings_at mol m))
  pub substitution : IsTrue (substitution_fits asked.test.substitution (drawn_others graph x) asked.free (others_at mol m))
  pub unsaturation : IsTrue (unsaturation_fits asked.test.unsaturated (is_unsaturated_at mol m))

-- ---- a bond on a bond

-- a bond of the molecule joins a and b and meets the test
pub record LiesOn (mol : Molecule) (asked : GraphBond) (a b : ℕ) : Type 0 where
  pub bond : MolBond
  pub joins : IsBondOf mol a b bond
  pub meets : IsTrue (meets asked bond)
