-- Graphs that can be written as a structure.
--     IsWritable graph     no end is free, and the bonds are few
use Rattle.std.specs.Prelude.{◌≡◌, ◌≤◌, ℕ, List, length, All}
use Rattle.mk_model.specs.declared.graph.GraphAtom.{GraphAtom}
use Rattle.mk_model.specs.declared.graph.GraphBond.{GraphBond}
use Rattle.mk_model.specs.Edges.{degree}
use Rattle.mk_model.specs.Graphs.{GraphView, graph_edges}

-- no atom has a free end: all that the graph asks for is drawn
abbrev pub HasNoFreeEnd : List GraphAtom → Type 0
HasNoFreeEnd atoms = All (λ atom. atom.free ≡ 0) atoms

-- each of so many atoms has at most 20 bonds
abbrev pub HasFewEach : ℕ → List GraphBond → Type 0
HasFewEach atoms bonds = (x : ℕ) → 1 ≤ x → x ≤ atoms → degree (graph_edges bonds) x ≤ 20

-- no atom has a free end, there are at most 999 bonds, and at most 20 at each atom
pub record IsWritable (graph : GraphView) : Type 0 where
  pub closed : HasNoFreeEnd graph.atoms
  pub few_bonds : length graph.bonds ≤ 999
  pub few_each : HasFewEach (length graph.atoms) graph.bonds
