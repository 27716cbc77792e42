-- What the code knows of the atoms of a table, as the definitions tell it.
--     site_is, bears_is, link_none, link_some     what is asked of an atom
use Rattle.std.proofs.Common.{◌≡◌, ◌≤◌, ◌+◌, ◌-◌, ℕ, false, List, [], refl, ap, ◌∙◌, length, get_or, arith}
use Rattle.std.specs.Prelude.{pos}
use Rattle.mk_props.specs.declared.property.LinkEntry.{LinkEntry}
use Rattle.mk_tables.specs.declared.raw.RawTable.{RawTable}
use Rattle.mk_demands.specs.Charges.{last_or, values_for}
use Rattle.mk_query.specs.declared.atom_marks.Standing.{Standing}
use Rattle.mk_query.specs.declared.linked_atoms.Linked.{Linked}
use Rattle.mk_query.specs.declared.linked_atoms.Linked.TheVariants as linked
use Rattle.mk_query.specs.AtomMarks.{AreStanding, bears, is_link, is_marked_site}
use Rattle.mk_query.specs.Drawn.{bears_point, gives_point, is_site_at, links_at, links_for, pairs_by, point_pairs}
use Rattle.mk_query.specs.LinkMarks.{IsLinked, is_named}
use Rattle.mk_query.proofs.MarkLemmas.{marks-at}
use Rattle.mk_query.proofs.SiteLemmas.{site_noted}

pub site_is : (table : RawTable) (standing : Standing) (x : ℕ) → AreStanding table standing → is_marked_site standing x ≡ is_site_at table x
site_is table standing x are = site_noted table standing.sites.items x are.sites_are

pub bears_is : (table : RawTable) (standing : Standing) (p x : ℕ) → AreStanding table standing → 1 ≤ x → x ≤ length table.atoms → bears standing p x ≡ bears_point table p x
bears_is table standing p x are least most =
    let place : x - 1 + 1 ≡ x = omega arith in
    ap (gives_point p) (are.points_are (x - 1) (omega (arith, are.points_size)) ∙ ap (λ (y : ℕ). last_or (pos 0) (values_for y (pairs_by point_pairs table.props))) place)

-- what is noted of the links of atom x
pub links_are : (table : RawTable) (standing : Standing) (x : ℕ) → AreStanding table standing → 1 ≤ x
    → x ≤ length table.atoms → IsLinked (links_at table x) (get_or standing.links.items (x - 1) linked.Nothing)
links_are table standing x are least most = marks-at (λ (y : ℕ). IsLinked (links_for y table.props)) standing.links.items x linked.Nothing least (omega (arith, are.links_size)) are.links_are

named_not : (links : List LinkEntry) (linked : Linked) → IsLinked links linked → is_named linked ≡ false → links ≡ []
named_not links linked.Nothing is not = is
named_not links (linked.One link) is not = absurd cc
named_not links linked.More is not = absurd cc

not_named : (links : List LinkEntry) (linked : Linked) → IsLinked links linked → links ≡ [] → is_named linked ≡ false
not_named links linked.Nothing is none = refl
not_named links (linked.One link) is none = (let one : length links ≡ 1 = ap (λ (l : List LinkEntry). length l) is in absurd (omega (arith, one, ap (λ (l : List LinkEntry). length l) none)))
not_named links linked.More is none = absurd (omega (arith, is, ap (λ (l : List LinkEntry). length l) none))

pub link_none : (table : RawTable) (standing : Standing) (x : ℕ) → AreStanding table standing → 1 ≤ x → x ≤ length table.atoms → is_link standing x ≡ false → links_at table x ≡ []
link_none table standing x are least most not = named_not (links_at table x) (get_or standing.links.items (x - 1) linked.Nothing) (links_are table standing x are least most) not

pub none_link : (table : RawTable) (standing : Standing) (x : ℕ) → AreStanding table standing → 1 ≤ x → x ≤ length table.atoms → links_at table x ≡ [] → is_link standing x ≡ false
none_link table standing x are least most none = not_named (links_at table x) (get_or standing.links.items (x - 1) linked.Nothing) (links_are table standing x are least most) none
