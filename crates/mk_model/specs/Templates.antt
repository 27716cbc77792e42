-- Templates as their lists. A template's atoms count from 1.
--     TemplateView                what is seen of a `Template`
--     slot_atom slot              the atom at which the slot stands
--     query_edges bonds           the bonds without their topologies
--     joins x y bond              the bond joins x and y
--     hang_together bonds x y     x and y hang together by the bonds
--     is_in_block template slot x     atom x belongs to the block of the link
use Rattle.std.specs.Prelude.{◌==◌, ◌&&◌, ◌||◌, ℕ, Bool, false, not, List, [], ◌∷◌, map, filter, if◌then◌else◌}
use Rattle.mk_model.specs.declared.atom_test.AtomTest.{AtomTest}
use Rattle.mk_model.specs.declared.edge.Edge.{Edge}
use Rattle.mk_model.specs.declared.template.QueryBond.{QueryBond}
use Rattle.mk_model.specs.declared.template.Slot.{Slot}
use Rattle.mk_model.specs.declared.template.Slot.TheVariants.{Link, Site}

-- what is seen of a `Template`: its atoms, its bonds, its slots, and the atoms with attachment
-- point 1 and 2
pub record TemplateView : Type 0 where
  pub atoms : List AtomTest
  pub bonds : List QueryBond
  pub slots : List Slot
  pub points : List ℕ

-- the atom at which a slot stands
abbrev pub slot_atom : Slot → ℕ
slot_atom (Link atom most from to) = atom
slot_atom (Site atom groups first second) = atom

-- how many neighbours a slot names: a link two, a site one or two
abbrev pub neighbour_count : Slot → ℕ
neighbour_count (Link atom most from to) = 2
neighbour_count (Site atom groups first second) = if second == 0 then 1 else 2

-- a bond of a template without its topology
abbrev pub query_edge : QueryBond → Edge
query_edge bond = record { first = bond.first; second = bond.second; kind = bond.kind }

-- the bonds of a template without their topologies
abbrev pub query_edges : List QueryBond → List Edge
query_edges bonds = map query_edge bonds

-- the bond joins x and y, in either order of its ends
abbrev pub joins : ℕ → ℕ → QueryBond → Bool
joins x y bond = ((bond.first == x) && (bond.second == y)) || ((bond.first == y) && (bond.second == x))

-- ---- blocks

-- Atoms x and y hang together by some bonds: by none where they are one atom, and with one bond
-- more either without it or by way of it. This is the least relation that holds of the ends of each
-- bond, goes both ways and goes on.
unfoldable pub hang_together : List QueryBond → ℕ → ℕ → Bool
hang_together [] x y = x == y
hang_together (bond ∷ bonds) x y =
    hang_together bonds x y
    || ((hang_together bonds x bond.first && hang_together bonds bond.second y)
    || (hang_together bonds x bond.second && hang_together bonds bond.first y))

-- the bonds of a template without those from a link to the two neighbours that it names
abbrev pub bonds_without : Slot → List QueryBond → List QueryBond
bonds_without (Link atom most from to) bonds = filter (λ bond. not (joins atom from bond || joins atom to bond)) bonds
bonds_without (Site atom groups first second) bonds = bonds

-- Atom x belongs to the block of a link: what hangs together with it once its bonds to the two
-- neighbours that it names are taken away. A site has no block.
abbrev pub is_in_block : TemplateView → Slot → ℕ → Bool
is_in_block template (Link atom most from to) x = hang_together (bonds_without (Link atom most from to) template.bonds) atom x
is_in_block template (Site atom groups first second) x = false
