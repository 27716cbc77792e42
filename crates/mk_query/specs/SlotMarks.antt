-- What the code notes of the sites and links of a table for its slots. For the code alone.
--     ends_near near                what is noted of neighbours, by rising atom
--     ends_placed entries           the neighbours by the places that entries give them
--     AreOrdered props old new      the orders of properties were put in place of what was noted
--     groups_in groups              the groups of which the bits are set
--     slot_by x linked site groups pair   the slot of atom x by what is noted of it
--     AreEnds both pair             the pair has these neighbours
--     HaveEnds table list           so it is for each atom of a table
use Rattle.std.specs.Prelude.{◌≡◌, ◌≤◌, ◌<◌, ◌+◌, ◌==◌, nat_lt, ℕ, Bool, List, Option, Some, None, length, slice_index_or, if◌then◌else◌}
use Rattle.std.specs.List.{filter, range_with_len}
use Rattle.mk_props.specs.declared.property.Pair.{Pair}
use Rattle.mk_props.specs.declared.property.Property.{Property}
use Rattle.mk_model.specs.declared.template.Slot.{Slot}
use Rattle.mk_model.specs.declared.template.Slot.TheVariants.{Link, Site}
use Rattle.mk_tables.specs.declared.raw.RawTable.{RawTable}
use Rattle.mk_demands.specs.Numbers.{natural}
use Rattle.mk_query.specs.declared.drawn.Near.{Near}
use Rattle.mk_query.specs.declared.drawn.Near.TheVariants as near
use Rattle.mk_query.specs.declared.linked_atoms.Linked.{Linked}
use Rattle.mk_query.specs.declared.linked_atoms.Linked.TheVariants as linked
use Rattle.mk_query.specs.declared.site_orders.SiteEnds.{SiteEnds}
use Rattle.mk_query.specs.Compiled.{atom_placed, order_for, ordered_neighbours}
use Rattle.mk_query.specs.Drawn.{drawn_neighbours}
use Rattle.mk_query.specs.Marks.{AreMarks, has_group}

-- ---- neighbours

-- the pair has these neighbours
abbrev pub AreEnds : ℕ × ℕ → SiteEnds → Type 0
AreEnds both pair = (pair.first ≡ both.0) × (pair.second ≡ both.1)

-- what is noted of each atom is the order of its neighbours, where they are one or two
abbrev pub HaveEnds : RawTable → List SiteEnds → Type 0
HaveEnds table list = AreMarks (λ x pair. length (drawn_neighbours table x) ≤ 2 → AreEnds (ordered_neighbours table x) pair) list

-- what is noted of neighbours, by rising atom; of none and of more than two nothing is
abbrev pub ends_near : Near → SiteEnds
ends_near near.Nothing = record { first = 0; second = 0 }
ends_near (near.One y) = record { first = y; second = 0 }
ends_near (near.Two y z) = if nat_lt y z then record { first = y; second = z } else record { first = z; second = y }
ends_near near.More = record { first = 0; second = 0 }

-- the neighbours by the places that the entries give them
abbrev pub ends_placed : List Pair → SiteEnds
ends_placed entries = record { first = atom_placed 1 entries; second = atom_placed 2 entries }

-- the neighbours by an order, or as they were where there is none
abbrev pub ends_after : Option (List Pair) → SiteEnds → SiteEnds
ends_after None pair = pair
ends_after (Some entries) pair = ends_placed entries

-- the orders of these properties were put in place of what was noted of each atom
pub record AreOrdered (props : List Property) (old new : List SiteEnds) : Type 0 where
  pub size : length new ≡ length old
  pub each : (k : ℕ) (d : SiteEnds) → k < length old → slice_index_or new k d ≡ ends_after (order_for (k + 1) props) (slice_index_or old k d)

-- the pair was put at atom n, where there is one
pub record IsPutAt (n : ℕ) (pair : SiteEnds) (old new : List SiteEnds) : Type 0 where
  pub size : length new ≡ length old
  pub each : (k : ℕ) (d : SiteEnds) → k < length old → slice_index_or new k d ≡ (if n == k + 1 then pair else slice_index_or old k d)

-- ---- slots

-- the groups of which the bits are set, rising
unfoldable pub groups_in : ℕ → List ℕ
groups_in groups = filter (has_group groups) (range_with_len 1 32)

-- the slot of atom x by what is noted of it, and none where more links than one are
abbrev pub slot_by : ℕ → Linked → Bool → ℕ → SiteEnds → Option Slot
slot_by x (linked.One link) site groups pair = Some (Link x (natural link.most) (natural link.from) (natural link.to))
slot_by x linked.Nothing site groups pair = if site then Some (Site x (groups_in groups) pair.first pair.second) else None
slot_by x linked.More site groups pair = None
