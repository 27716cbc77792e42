-- The tables of the drill's query, written out.
--     query_raw                    what its file says
use Rattle.std.proofs.Common.{[], ◌∷◌, ℕ, List}
use Rattle.std.specs.Prelude.{codes, pos}
use Rattle.mk_props.specs.declared.property.LogicLine.{LogicLine}
use Rattle.mk_props.specs.declared.property.Pair.{Pair}
use Rattle.mk_props.specs.declared.property.Property.{Property}
use Rattle.mk_props.specs.declared.property.Property.TheVariants as kinds
use Rattle.mk_tables.specs.declared.raw.RawBond.{RawBond}
use Rattle.mk_tables.specs.declared.raw.RawTable.{RawTable}
use Rattle.mk_rgfile.specs.declared.raw_query.RawGroup.{RawGroup}
use Rattle.mk_rgfile.specs.declared.raw_query.RawQuery.{RawQuery}
use Rattle.mk_drill.specs.Draws.{plain_atom, plain_bond}

-- the bonds of the ring, and the one to the site
abbrev pub root_bonds : List RawBond
root_bonds = plain_bond 1 2 2 ∷ plain_bond 2 3 1 ∷ plain_bond 3 4 2 ∷ plain_bond 4 5 1 ∷ plain_bond 5 6 2 ∷ plain_bond 1 6 1 ∷ plain_bond 1 7 1 ∷ []

-- a filled site of group 1 or more, and a hydrogen where one isn't filled
abbrev pub root_logic : LogicLine
root_logic = record { group = pos 1; then_group = pos 0; rest = pos 1; range = [] }

abbrev pub pair : ℕ → ℕ → Pair
pair atom value = record { atom = pos atom; value = pos value }

-- the atom bears the first attachment point
abbrev pub point : ℕ → Property
point atom = kinds.Points (pair atom 1 ∷ [])

abbrev pub root_table : RawTable
root_table = record {
  atoms = plain_atom (codes "C") ∷ plain_atom (codes "C") ∷ plain_atom (codes "C") ∷ plain_atom (codes "C") ∷ plain_atom (codes "C") ∷ plain_atom (codes "C") ∷ plain_atom (codes "R#") ∷ [];
  bonds = root_bonds;
  lists = [];
  props = kinds.Logic root_logic ∷ kinds.Label (pair 7 1 ∷ []) ∷ [];
}

-- a member of one atom
abbrev pub single : List ℕ → RawTable
single symbol = record { atoms = plain_atom symbol ∷ []; bonds = []; lists = []; props = point 1 ∷ [] }

-- an oxygen with a carbon
abbrev pub methoxy : RawTable
methoxy = record { atoms = plain_atom (codes "O") ∷ plain_atom (codes "C") ∷ []; bonds = plain_bond 1 2 1 ∷ []; lists = []; props = point 1 ∷ [] }

abbrev pub query_groups : List RawGroup
query_groups = record { number = 1; members = single (codes "Cl") ∷ single (codes "Br") ∷ methoxy ∷ [] } ∷ []

abbrev pub query_raw : RawQuery
query_raw = record { root = root_table; groups = query_groups }
