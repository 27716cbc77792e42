-- What the builders of tests make is a molecule, or a graph but for its marks.
--     molecule-built      atoms that are elements, and marked bonds of a graph
--     graph-built         atoms and bonds whose tests are in range, and bonds in order
use Rattle.std.proofs.Common.{◌≡◌, ◌≤◌, ◌<◌, ℕ, List, Some, ap, length, arith}
use Rattle.std.specs.Prelude.{All, AllPairs, slice_get}
use Rattle.std.proofs.lemmas.List.{length-map, get_or-map}
use Rattle.mk_model.specs.declared.edge.Edge.{Edge}
use Rattle.mk_model.specs.declared.graph.GraphAtom.{GraphAtom}
use Rattle.mk_model.specs.declared.graph.GraphBond.{GraphBond}
use Rattle.mk_model.specs.declared.molecule.Atom.{Atom}
use Rattle.mk_model.specs.declared.molecule.MolBond.{MolBond}
use Rattle.mk_model.specs.Edges.{IsEdgeBefore, IsSimple}
use Rattle.mk_model.specs.Graphs.{graph_edge, graph_edges, IsUnmarked}
use Rattle.mk_model.specs.Molecules.{HasMarks, edge_of, edges, IsElement, IsMolecule}
use Rattle.mk_model.specs.Tests.{IsBondInRange, IsTestInRange}
use Rattle.mk_model.proofs.ForCallers.{all_mapped}

-- a molecule of atoms that are elements and of the bonds of a graph
pub molecule-built : (count : ℕ) (atoms : List Atom) (drawn : List Edge) (bonds : List MolBond) → count ≡ length atoms
    → length atoms ≤ 512 → length drawn ≤ 9999 → All (λ atom. IsElement atom.element) atoms → IsSimple count drawn
    → edges bonds ≡ drawn
    → ((b : ℕ) (bond : MolBond) → slice_get bonds b ≡ Some bond → HasMarks drawn b bond) → IsMolecule (record { written = count; atoms = atoms; bonds = bonds })
molecule-built count atoms drawn bonds is_count few few_bonds elements simple same marks = record {
  written = omega arith;
  few_atoms = omega arith;
  few_bonds = omega (arith, length-map bonds edge_of, ap length same);
  elements = elements;
  graph = rw (same, ← is_count) simple;
  marks = λ b bond at. rw same (marks b bond at);
}

-- a graph but for its marks, of atoms and bonds whose tests are in range
pub graph-built : (atoms : List GraphAtom) (bonds : List GraphBond) → length atoms ≤ 512
    → All (λ atom. IsTestInRange atom.test) atoms → All (λ bond. IsBondInRange bond.kind bond.topology) bonds
    → IsSimple (length atoms) (graph_edges bonds) → All (λ edge. edge.first < edge.second) (graph_edges bonds)
    → AllPairs IsEdgeBefore (graph_edges bonds) → IsUnmarked (record { atoms = atoms; bonds = bonds })
graph-built atoms bonds few tests bond_tests simple lower_first order = record {
  few = few;
  tests = tests;
  bond_tests = bond_tests;
  graph = simple;
  lower_first = all_mapped graph_edge (λ edge. edge.first < edge.second) bonds lower_first;
  order = λ i j d below last.
      rw (get_or-map graph_edge bonds i d (graph_edge d) (omega arith), get_or-map graph_edge bonds j d (graph_edge d) last)
      at (order i j (graph_edge d) below (omega (arith, length-map bonds graph_edge)));
}
