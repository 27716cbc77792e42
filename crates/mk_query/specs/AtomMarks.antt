-- What the code knows of the atoms of a table: sites, neighbours, labels, attachment points and
-- links. For the code alone.
--     AreStanding table standing      it is that of the table
--     is_marked_site, is_link, bears  what is asked of atom x
--     note_props                      it is so in one way at most
use Rattle.std.proofs.Props.{props}
use Rattle.std.specs.Coded.{Coded, Coded-set, code_by, coded_list, coded_ℕ, coded_ℤ, coded×, le_prop}
use Rattle.std.specs.Prelude.{◌≡◌, ◌-◌, ℕ, ℤ, pos, Bool, List, [], ◌∷◌, refl, length, map, slice_index_or}
use Rattle.mk_props.specs.declared.property.LinkEntry.{LinkEntry}
use Rattle.mk_tables.specs.declared.raw.RawTable.{RawTable}
use Rattle.mk_query.specs.declared.atom_marks.Standing.{Standing}
use Rattle.mk_query.specs.declared.drawn.Near.{Near}
use Rattle.mk_query.specs.declared.drawn.Near.TheVariants as near
use Rattle.mk_query.specs.declared.linked_atoms.Linked.{Linked}
use Rattle.mk_query.specs.declared.linked_atoms.Linked.TheVariants as linked
use Rattle.mk_query.specs.Drawn.{drawn_neighbours, gives_point, is_site, labels_at, point_pairs}
use Rattle.mk_query.specs.LastValues.{AreLastValues}
use Rattle.mk_query.specs.LinkMarks.{AreLinked, IsLinked, is_named}
use Rattle.mk_query.specs.Marks.{AreMarks, IsLabels, IsNear, site_mark}

-- the notes are those of the table, for each of its atoms
pub record AreStanding (table : RawTable) (standing : Standing) : Type 0 where
  pub sites_are : standing.sites.items ≡ map is_site table.atoms
  pub near_size : length standing.near.items ≡ length table.atoms
  pub near_are : AreMarks (λ x. IsNear (drawn_neighbours table x)) standing.near.items
  pub labels_size : length standing.labels.items ≡ length table.atoms
  pub labels_are : AreMarks (λ x. IsLabels (labels_at table x)) standing.labels.items
  pub points_size : length standing.points.items ≡ length table.atoms
  pub points_are : AreLastValues point_pairs table.props standing.points.items
  pub links_size : length standing.links.items ≡ length table.atoms
  pub links_are : AreLinked table.props standing.links.items

-- atom x is a site
abbrev pub is_marked_site : Standing → ℕ → Bool
is_marked_site standing x = site_mark standing.sites.items x

-- some link names atom x
abbrev pub is_link : Standing → ℕ → Bool
is_link standing x = is_named (slice_index_or standing.links.items (x - 1) linked.Nothing)

-- atom x bears point p
abbrev pub bears : Standing → ℕ → ℕ → Bool
bears standing p x = gives_point p (slice_index_or standing.points.items (x - 1) (pos 0))

-- ---- one proof at most

-- what is noted of neighbours holds in one way at most
pub near_prop : (neighbours : List ℕ) (near : Near) → IsProp (IsNear neighbours near)
near_prop neighbours near.Nothing = Coded-set (coded_list coded_ℕ) neighbours []
near_prop neighbours (near.One y) = Coded-set (coded_list coded_ℕ) neighbours (y ∷ [])
near_prop neighbours (near.Two y z) = Coded-set (coded_list coded_ℕ) neighbours (y ∷ z ∷ [])
near_prop neighbours near.More = le_prop

-- a link as its four numbers
abbrev coded_link : Coded LinkEntry
coded_link =
    code_by (ℤ × (ℤ × (ℤ × ℤ))) (coded× coded_ℤ (coded× coded_ℤ (coded× coded_ℤ coded_ℤ))) (λ l. (l.atom, (l.most, (l.from, l.to))))
    (λ p. record { atom = p.0; most = p.1.0; from = p.1.1.0; to = p.1.1.1 }) (λ _. refl)

-- and so does what is noted of links
pub linked_prop : (links : List LinkEntry) (noted : Linked) → IsProp (IsLinked links noted)
linked_prop links linked.Nothing = Coded-set (coded_list coded_link) links []
linked_prop links (linked.One link) = Coded-set (coded_list coded_link) links (link ∷ [])
linked_prop links linked.More = le_prop

pub ruleset note_props = (props, near_prop, linked_prop)
