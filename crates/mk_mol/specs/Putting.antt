-- What the code knows of the written atoms and of bonds. For the code alone.
--     IsSound atom                           an element with a radical that there is
--     kinds_of edges numbers                 the types of the numbered bonds
--     unmarked edge                          the bond of a molecule with neither mark
use Rattle.std.specs.Prelude.{◌≤◌, ◌-◌, ℕ, List, false, map, slice_index_or}
use Rattle.mk_model.specs.declared.edge.Edge.{Edge}
use Rattle.mk_model.specs.declared.molecule.Atom.{Atom}
use Rattle.mk_model.specs.declared.molecule.MolBond.{MolBond}
use Rattle.mk_model.specs.Molecules.{IsElement}

-- an element with a radical that there is
pub record IsSound (atom : Atom) : Type 0 where
  pub element : IsElement atom.element
  pub radical : atom.radical ≤ 3

-- ---- types of bonds

-- an edge for numbers that no bond has
abbrev pub no_edge : Edge
no_edge = record { first = 0; second = 0; kind = 0 }

-- the types of the bonds with these numbers
abbrev pub kinds_of : List Edge → List ℕ → List ℕ
kinds_of edges numbers = map (λ number. (slice_index_or edges (number - 1) no_edge).kind) numbers

-- ---- marks

-- the bond of a molecule that is this edge, with neither mark
abbrev pub unmarked : Edge → MolBond
unmarked edge = record { first = edge.first; second = edge.second; kind = edge.kind; ring = false; aromatic = false }
