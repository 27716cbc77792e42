-- The neighbours of sites in their order, noted property by property, and the slots that are told by what is noted.
--     ordered_are       what is noted of neighbours is their order
--     slot_is           what is noted of an atom tells its slot
use Rattle.std.proofs.Common.{◌≡◌, ◌≢◌, ◌≤◌, ◌<◌, ◌+◌, ◌-◌, ℕ, Bool, true, false, cond, eqb, List, [], ◌∷◌, ◌++◌, Option, Some, None, refl, ap, sym, subst, ◌∙◌, length, get_or, map, drop, arith, ⊎_elim}
use Rattle.std.specs.Prelude.{ℤ, pos, ◌↔◌, nat_lt, slice_get, IsTrue}
use Rattle.std.specs.List.{range_with_len}
use Rattle.std.specs.Ordering.{int_eq}
use Rattle.std.proofs.lemmas.Bool.{true≢false}
use Rattle.std.proofs.lemmas.List.{append-nil, append_assoc, drop_all, drop_more, get_or-map, length-map}
use Rattle.std.proofs.lemmas.Option.{get_or_from_slice_get, slice_get_cases}
use Rattle.mk_props.specs.declared.property.LinkEntry.{LinkEntry}
use Rattle.mk_props.specs.declared.property.Pair.{Pair}
use Rattle.mk_props.specs.declared.property.Property.{Property}
use Rattle.mk_props.specs.declared.property.Property.TheVariants as kinds
use Rattle.mk_props.specs.declared.property.SiteOrder.{SiteOrder}
use Rattle.mk_model.specs.declared.template.Slot.{Slot}
use Rattle.mk_tables.specs.declared.raw.RawAtom.{RawAtom}
use Rattle.mk_tables.specs.declared.raw.RawTable.{RawTable}
use Rattle.mk_demands.specs.Numbers.{natural}
use Rattle.mk_query.specs.declared.drawn.Labels.{Labels}
use Rattle.mk_query.specs.declared.drawn.Near.{Near}
use Rattle.mk_query.specs.declared.drawn.Near.TheVariants as near
use Rattle.mk_query.specs.declared.linked_atoms.Linked.{Linked}
use Rattle.mk_query.specs.declared.linked_atoms.Linked.TheVariants as linked
use Rattle.mk_query.specs.declared.site_orders.SiteEnds.{SiteEnds}
use Rattle.mk_query.specs.Compiled.{atom_placed, labelled_groups, neighbours_by, order_for, order_of, ordered_neighbours, rising_neighbours, slot_at, slot_with, slots_at, slots_in, table_slots}
use Rattle.mk_query.specs.Drawn.{drawn_neighbours, is_site, labels_at, links_at, neighbours_at, query_bonds}
use Rattle.mk_query.specs.FirstFault.{link_atoms, labelled_sites, site_places}
use Rattle.mk_query.specs.LinkChecks.{AreRightLinks}
use Rattle.mk_query.specs.LinkMarks.{AreLinked, IsLinked}
use Rattle.mk_query.specs.Marks.{AreMarks, IsLabels, IsNear}
use Rattle.mk_query.specs.Passed.{HasPassed}
use Rattle.mk_query.specs.SlotMarks.{AreEnds, AreOrdered, IsPutAt, ends_after, ends_near, ends_placed, groups_in, slot_by}
use Rattle.mk_query.proofs.LabelMarkLemmas.{groups_same}
use Rattle.mk_query.proofs.RangeLemmas.{numbers_more}

-- ---- the atom of a place

-- the entry at hand gives the place
pub placed_here : (k i : ℕ) (entries : List Pair) (d : Pair) → i < length entries
    → int_eq (get_or entries i d).value (pos k) ≡ true → atom_placed k (drop i entries) ≡ atom_placed k entries
    → natural (get_or entries i d).atom ≡ atom_placed k entries
placed_here k i entries d below gives before = (let next = ap (atom_placed k) (drop_more entries i d below)
    in sym (ap (λ (b : Bool). cond b (natural (get_or entries i d).atom) (atom_placed k (drop (i + 1) entries))) gives)
    ∙ sym next ∙ before)

-- it doesn't
pub placed_on : (k i : ℕ) (entries : List Pair) (d : Pair) → i < length entries
    → int_eq (get_or entries i d).value (pos k) ≡ false → atom_placed k (drop i entries) ≡ atom_placed k entries
    → atom_placed k (drop (i + 1) entries) ≡ atom_placed k entries
placed_on k i entries d below gives before = (let next = ap (atom_placed k) (drop_more entries i d below)
    in sym (ap (λ (b : Bool). cond b (natural (get_or entries i d).atom) (atom_placed k (drop (i + 1) entries))) gives)
    ∙ sym next ∙ before)

-- ---- orders

-- behind the last property
pub ordered_none : (props : List Property) (i : ℕ) (old : List SiteEnds) → length props ≤ i → AreOrdered (drop i props) old old
ordered_none props i old all = rw (drop_all i props all) (record { size = refl; each = λ k d below. refl })

-- before the first
pub ordered_all : (props : List Property) (i : ℕ) (old new : List SiteEnds) → i ≤ 0 → AreOrdered (drop i props) old new → AreOrdered props old new
ordered_all props i old new none are = (let zero_is : i ≡ 0 = omega arith in subst (λ (j : ℕ). AreOrdered (drop j props) old new) zero_is are)

after_one : (x : ℕ) (p : Property) (later : Option (List Pair)) (pair : SiteEnds) → ends_after (order_of x p None) (ends_after later pair) ≡ ends_after (order_of x p later) pair
after_one x (kinds.Order order) later pair = by_test (eqb (natural order.atom) x)
  where
    by_test : (b : Bool) → ends_after (cond b (Some order.entries) None) (ends_after later pair) ≡ ends_after (cond b (Some order.entries) later) pair
    by_test true = refl
    by_test false = refl
after_one x p later pair = refl

-- one property more, before the others
ordered_more : (props : List Property) (i : ℕ) (d : Property) (start old new : List SiteEnds) → i < length props
    → AreOrdered (drop (i + 1) props) start old → AreOrdered (get_or props i d ∷ []) old new
    → AreOrdered (drop i props) start new
ordered_more props i d start old new below others one = record {
  size = one.size ∙ others.size;
  each = λ k e inside.
      let p = get_or props i d in
      let later = order_for (k + 1) (drop (i + 1) props) in
      one.each k e (omega (arith, others.size)) ∙ ap (λ (was : SiteEnds). ends_after (order_of (k + 1) p None) was) (others.each k e inside) ∙ after_one (k + 1) p later (get_or start k e)
      ∙ ap (λ (l : List Property). ends_after (order_for (k + 1) l) (get_or start k e)) (sym (drop_more props i d below));
}

pub ordered_back : (props : List Property) (i : ℕ) (p : Property) (start old new : List SiteEnds) → 0 < i
    → i ≤ length props → p ≡ get_or props (i - 1) p → AreOrdered (drop i props) start old → AreOrdered (p ∷ []) old new
    → AreOrdered (drop (i - 1) props) start new
ordered_back props i p start old new some most is others one =
    let place : i - 1 + 1 ≡ i = omega arith in
    ordered_more props (i - 1) p start old new (omega arith) (rw place others) (subst (λ (q : Property). AreOrdered (q ∷ []) old new) is one)

-- the pair that an order gives
pub ordered_one : (order : SiteOrder) (n : ℕ) (pair : SiteEnds) (old new : List SiteEnds) → n ≡ natural order.atom
    → pair ≡ ends_placed order.entries → IsPutAt n pair old new → AreOrdered (kinds.Order order ∷ []) old new
ordered_one order n pair old new names is put = record {
  size = put.size;
  each = λ k d below.
      put.each k d below ∙ ap (λ (m : ℕ). cond (eqb m (k + 1)) pair (get_or old k d)) names ∙ ap (λ (p : SiteEnds). cond (eqb (natural order.atom) (k + 1)) p (get_or old k d)) is
      ∙ by_test (eqb (natural order.atom) (k + 1)) (get_or old k d);
}
  where
    by_test : (b : Bool) (was : SiteEnds) → cond b (ends_placed order.entries) was ≡ ends_after (cond b (Some order.entries) None) was
    by_test true was = refl
    by_test false was = refl

-- ---- the order of neighbours

near_ends : (neighbours : List ℕ) (mark : Near) → IsNear neighbours mark → length neighbours ≤ 2 → AreEnds (rising_neighbours neighbours) (ends_near mark)
near_ends neighbours near.Nothing is few = rw is (refl, refl)
near_ends neighbours (near.One y) is few = rw is (refl, refl)
near_ends neighbours (near.Two y z) is few = rw is (by_order (nat_lt y z))
  where
    by_order : (b : Bool) → AreEnds (cond b (y, z) (z, y)) (cond b (record { first = y; second = z }) (record { first = z; second = y }))
    by_order true = (refl, refl)
    by_order false = (refl, refl)
near_ends neighbours near.More is few = absurd (omega (arith, is, few))

after_ends : (found : Option (List Pair)) (neighbours : List ℕ) (pair : SiteEnds) → AreEnds (rising_neighbours neighbours) pair → AreEnds (neighbours_by found neighbours) (ends_after found pair)
after_ends None neighbours pair are = are
after_ends (Some entries) neighbours pair are = (refl, refl)

-- what is noted of neighbours is their order, where they are one or two
pub ordered_are : (table : RawTable) (marks : List Near) (start new : List SiteEnds) → start ≡ map ends_near marks
    → AreMarks (λ x. IsNear (neighbours_at (query_bonds table.bonds) x)) marks → AreOrdered table.props start new
    → AreMarks (λ x pair. length (drawn_neighbours table x) ≤ 2 → AreEnds (ordered_neighbours table x) pair) new
ordered_are table marks start new noted are ordered k d below few =
    let size : length start ≡ length marks = ap (λ (l : List SiteEnds). length l) noted ∙ length-map marks ends_near in
    let inside : k < length start = omega (arith, ordered.size) in
    let within : k < length marks = omega (arith, size, inside) in
    let was : get_or start k d ≡ ends_near (get_or marks k near.Nothing) = ap (λ (l : List SiteEnds). get_or l k d) noted ∙ get_or-map ends_near marks k near.Nothing d within in
    let is : get_or new k d ≡ ends_after (order_for (k + 1) table.props) (ends_near (get_or marks k near.Nothing)) =
    ordered.each k d inside ∙ ap (λ (p : SiteEnds). ends_after (order_for (k + 1) table.props) p) was in
    rw is (after_ends (order_for (k + 1) table.props) (drawn_neighbours table (k + 1))
    (ends_near (get_or marks k near.Nothing)) (near_ends (drawn_neighbours table (k + 1))
    (get_or marks k near.Nothing) (are k near.Nothing within) few))

pub ordered_size : (marks : List Near) (start new : List SiteEnds) → start ≡ map ends_near marks → length new ≡ length start → length new ≡ length marks
ordered_size marks start new noted same = same ∙ ap (λ (l : List SiteEnds). length l) noted ∙ length-map marks ends_near

-- ---- slots

-- the slot by the labels of an atom without links
by_labels : (x : ℕ) (labels : List ℤ) (site : Bool) (groups : ℕ) (both : ℕ × ℕ) (pair : SiteEnds)
    → IsTrue site ↔ (labels ≢ []) → groups_in groups ≡ labelled_groups labels
    → (IsTrue site → AreEnds both pair)
    → slot_by x linked.Nothing site groups pair ≡ slot_with x [] labels both
by_labels x [] true groups both pair word are ends = absurd (word.0 refl refl)
by_labels x [] false groups both pair word are ends = refl
by_labels x (v ∷ vs) true groups both pair word are ends = (let e = ends refl in rw (are, e.0, e.1) refl)
by_labels x (v ∷ vs) false groups both pair word are ends = absurd (true≢false (sym (word.1 (λ e. absurd cc))))

-- the slot by the links of an atom
by_links : (table : RawTable) (x : ℕ) (links : List LinkEntry) (mark : Linked) (site : Bool) (groups : ℕ)
    (labels : List ℤ) (both : ℕ × ℕ) (pair : SiteEnds) → IsLinked links mark → AreRightLinks table x links
    → slot_by x linked.Nothing site groups pair ≡ slot_with x [] labels both → slot_by x mark site groups pair ≡ slot_with x links labels both
by_links table x links linked.Nothing site groups labels both pair is right none = rw is none
by_links table x links (linked.One link) site groups labels both pair is right none = rw is refl
by_links table x [] linked.More site groups labels both pair is right none = absurd (omega (arith, is))
by_links table x (link ∷ []) linked.More site groups labels both pair is right none = absurd (omega (arith, is))
by_links table x (link ∷ second ∷ links) linked.More site groups labels both pair is right none = absurd right

-- what is noted of an atom tells its slot, where the table passes
pub slot_is : (table : RawTable) (i : ℕ) (line : RawAtom) (linked : Linked) (site : Bool) (mark : Labels) (pair : SiteEnds) → HasPassed table → slice_get table.atoms i ≡ Some line
    → IsLinked (links_at table (i + 1)) linked → site ≡ is_site line → IsLabels (labels_at table (i + 1)) mark
    → (length (drawn_neighbours table (i + 1)) ≤ 2 → AreEnds (ordered_neighbours table (i + 1)) pair)
    → slot_by (i + 1) linked site mark.groups pair ≡ slot_at table (i + 1)
slot_is table i line linked site mark pair passed at are_links is_site_is are_labels ends =
    let place : i + 1 - 1 ≡ i = omega arith in
    let there : slice_get table.atoms (i + 1 - 1) ≡ Some line = rw place at in
    let right = passed.passes link_atoms (i + 1) line (omega arith) there in
    let labelled = passed.passes labelled_sites (i + 1) line (omega arith) there in
    let placed = passed.passes site_places (i + 1) line (omega arith) there in
    by_links table (i + 1) (links_at table (i + 1)) linked site mark.groups (labels_at table (i + 1)) (ordered_neighbours table (i + 1)) pair are_links right
    (by_labels (i + 1) (labels_at table (i + 1)) site mark.groups (ordered_neighbours table (i + 1)) pair (rw is_site_is labelled.word)
    (groups_same mark.groups (labels_at table (i + 1)) are_labels.groups)
    (λ yes. ends (placed (rw is_site_is at yes)).two))

-- what is noted at the place of an atom
pub slot_noted : (table : RawTable) (i : ℕ) (links : List Linked) (sites : List Bool) (labels : List Labels)
    (ends : List SiteEnds) (mark : Linked) (site : Bool) (label : Labels) (pair : SiteEnds) → HasPassed table
    → i < length table.atoms
    → length links ≡ length table.atoms → AreLinked table.props links → sites ≡ map is_site table.atoms → length labels ≡ length table.atoms → AreMarks (λ x. IsLabels (labels_at table x)) labels
    → length ends ≡ length table.atoms → AreMarks (λ x p. length (drawn_neighbours table x) ≤ 2 → AreEnds (ordered_neighbours table x) p) ends
    → mark ≡ get_or links i mark → site ≡ get_or sites i site → label ≡ get_or labels i label → pair ≡ get_or ends i pair → slot_by (i + 1) mark site label.groups pair ≡ slot_at table (i + 1)
slot_noted table i links sites labels ends mark site label pair passed below links_size links_are sites_are labels_size labels_are ends_size ends_are mark_is site_is label_is pair_is =
    ⊎_elim
    (λ found.
    let line = found.0 in
    let at : slice_get table.atoms i ≡ Some line = found.2 in
    let linked_so : IsLinked (links_at table (i + 1)) mark = subst (IsLinked (links_at table (i + 1))) (sym mark_is) (links_are i mark (omega (arith, below, links_size))) in
    let site_so : site ≡ is_site line =
    site_is ∙ ap (λ (l : List Bool). get_or l i site) sites_are ∙ get_or-map is_site table.atoms i line site below ∙ ap is_site (get_or_from_slice_get table.atoms i line line at) in
    let label_so : IsLabels (labels_at table (i + 1)) label = subst (IsLabels (labels_at table (i + 1))) (sym label_is) (labels_are i label (omega (arith, below, labels_size))) in
    slot_is table i line mark site label pair passed at linked_so site_so label_so
    (λ few. (let P : SiteEnds → Type 0 = λ p. AreEnds (ordered_neighbours table (i + 1)) p in subst P (sym pair_is) (ends_are i pair (omega (arith, below, ends_size)) few))))
    (λ none. absurd (omega (arith, none.0, below)))
    (slice_get_cases table.atoms i).1

-- ---- all slots

pub slots_at-push : (table : RawTable) (atoms : List ℕ) (x : ℕ) → slots_at table (atoms ++ x ∷ []) ≡ slots_at table atoms ++ slots_in (slot_at table x)
slots_at-push table [] x = append-nil (slots_in (slot_at table x))
slots_at-push table (y ∷ atoms) x = ap (λ (l : List Slot). slots_in (slot_at table y) ++ l)
    (slots_at-push table atoms x) ∙ sym (append_assoc (slots_in (slot_at table y)) (slots_at table atoms)
    (slots_in (slot_at table x)))

-- one atom more
pub slots_more : (table : RawTable) (i : ℕ) (old new : List Slot) (slot : Option Slot) → slot ≡ slot_at table (i + 1)
    → new ≡ old ++ slots_in slot → old ≡ slots_at table (range_with_len 1 i)
    → new ≡ slots_at table (range_with_len 1 (i + 1))
slots_more table i old new slot is put are =
    put ∙ ap (λ (s : Option Slot). old ++ slots_in s) is ∙ ap (λ (l : List Slot). l ++ slots_in (slot_at table (i + 1))) are
    ∙ sym (ap (slots_at table) (numbers_more i) ∙ slots_at-push table (range_with_len 1 i) (i + 1))

-- behind the last atom
pub slots_all : (table : RawTable) (i : ℕ) (slots : List Slot) → length table.atoms ≡ i → slots ≡ slots_at table (range_with_len 1 i) → slots ≡ table_slots table
slots_all table i slots all are = are ∙ ap (λ (n : ℕ). slots_at table (range_with_len 1 n)) (sym all)
