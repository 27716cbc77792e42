-- Bonds of a graph, whatever their marks are.
--     bare_bond bond       the bond without its marks
--     bare_bonds bonds     the bonds without theirs
use Rattle.std.specs.Prelude.{false, List, map}
use Rattle.mk_model.specs.declared.graph.GraphBond.{GraphBond}

-- the bond without its marks
abbrev pub bare_bond : GraphBond → GraphBond
bare_bond bond = record bond { ring = false; aromatic = false }

-- the bonds without theirs
abbrev pub bare_bonds : List GraphBond → List GraphBond
bare_bonds bonds = map bare_bond bonds
