-- What a graph asks for and a molecule has, in numbers: all atoms, and those of each element.
--     AreAsked graph asked      the graph asks for so many
--     AreThere mol counts       the molecule has so many
use Rattle.std.specs.Prelude.{◌≡◌, ◌≤◌, ℕ, All, count_by, get_or, length}
use Rattle.mk_model.specs.Graphs.{GraphView}
use Rattle.mk_model.specs.Molecules.{Molecule}
use Rattle.mk_counts.specs.declared.asked.Asked.{Asked}
use Rattle.mk_counts.specs.declared.asked.Counts.{Counts}
use Rattle.mk_counts.specs.declared.asked.ElementCount.{ElementCount}
use Rattle.mk_counts.specs.Counts.{asks_for, is_of}

-- so many atoms of the graph ask for this element alone
pub record IsAsked (graph : GraphView) (asked : ElementCount) : Type 0 where
  pub known : asked.element ≤ 118
  pub count : asked.count ≡ count_by (asks_for asked.element) graph.atoms

-- the graph has so many atoms, and asks for so many of each of these elements
pub record AreAsked (graph : GraphView) (asked : Asked) : Type 0 where
  pub atoms : asked.atoms ≡ length graph.atoms
  pub elements : All (IsAsked graph) asked.elements.items

-- the molecule has so many atoms, and so many of element z at place z
pub record AreThere (mol : Molecule) (counts : Counts) : Type 0 where
  pub atoms : counts.atoms ≡ length mol.atoms
  pub all : length counts.elements ≡ 119
  pub elements : (z : ℕ) → z ≤ 118 → get_or counts.elements z 0 ≡ count_by (is_of z) mol.atoms
