-- The orders of sites' neighbours, looked through from behind.
use Rattle.std.proofs.Common.{◌≡◌, ℕ, ◌+◌, ◌-◌, ◌<◌, ◌≤◌, Bool, true, false, ◌||◌, cond, List, [], ◌∷◌, All, Option, Some, None, length, get_or, drop, replicate, refl, sym, ap, subst, ◌∙◌, arith, ⊎_elim}
use Rattle.std.specs.Prelude.{◌↔◌, ℤ, pos, IsTrue, map, slice_get}
use Rattle.std.specs.List.{list_any}
use Rattle.std.proofs.lemmas.Bool.{cases_Bool, cases_lt, eq-eqb, eqb-true, true≢false}
use Rattle.std.proofs.lemmas.List.{drop_all, drop_more, get_or-replicate, length-map, length-replicate}
use Rattle.std.proofs.lemmas.List.Elements.{All-cons, All-head, All-nil, All-tail}
use Rattle.std.proofs.lemmas.List.Folds.{list_any_at, list_any_none}
use Rattle.mk_props.specs.declared.property.Pair.{Pair}
use Rattle.mk_props.specs.declared.property.Property.{Property}
use Rattle.mk_props.specs.declared.property.Property.TheVariants as kinds
use Rattle.mk_props.specs.declared.property.SiteOrder.{SiteOrder}
use Rattle.mk_text.specs.Items.{FindsLeast}
use Rattle.mk_text.proofs.ForCallers.{items-none, of_item-at, of_item-here, of_item-past}
use Rattle.mk_tables.specs.declared.raw.RawAtom.{RawAtom}
use Rattle.mk_tables.specs.declared.raw.RawTable.{RawTable}
use Rattle.mk_demands.specs.Numbers.{IsAtom, natural}
use Rattle.mk_demands.proofs.ForCallers.{atom_is, atom_within}
use Rattle.mk_query.specs.declared.drawn.Near.{Near}
use Rattle.mk_query.specs.declared.drawn.Near.TheVariants as near
use Rattle.mk_query.specs.Drawn.{drawn_neighbours, is_site, is_site_at}
use Rattle.mk_query.specs.Marks.{AreMarks, IsNear, site_mark}
use Rattle.mk_query.specs.OrderSearch.{Gives, IsOrderBy, IsOrderedBy, IsSeen, Names, OrdersNear, names_site}
use Rattle.mk_query.specs.SiteChecks.{ArePlaced, HasSiteOrder, HasSitePlace, IsOrdered, IsSiteOrder, OrdersNeighbours, OrdersSame}
use Rattle.mk_query.proofs.MarkLemmas.{marks-at}
use Rattle.mk_query.proofs.SiteLemmas.{site_noted}

-- ---- one or two neighbours in order

one_place : (P : ℕ → Type 0) → P 1 → (k : ℕ) → 1 ≤ k → k ≤ 1 → P k
one_place P p k least most = (let one : 1 ≡ k = omega arith in subst P one p)

two_places : (P : ℕ → Type 0) → P 1 → P 2 → (k : ℕ) → 1 ≤ k → k ≤ 2 → P k
two_places P p q k least most =
    ⊎_elim (λ below. one_place P p k least (omega arith)) (λ above. let two : 2 ≡ k = omega arith in subst P two q) (cases_lt k 2)

-- what the test of the entries says, where there are one or two neighbours
pub near_orders : (entries : List Pair) (neighbours : List ℕ) (n : Near) → IsNear neighbours n → OrdersNear entries n → OrdersNeighbours entries neighbours
near_orders entries neighbours near.Nothing is o = absurd o
near_orders entries neighbours (near.One y) is o = rw is (record {
  as_many = o.0;
  named = All-cons (Names entries) y [] o.1.0 (All-nil (Names entries));
  places = one_place (Gives entries) o.1.1;
})
near_orders entries neighbours (near.Two y z) is o = rw is (record {
  as_many = o.0;
  named = All-cons (Names entries) y (z ∷ []) o.1.0.0 (All-cons (Names entries) z [] o.1.0.1 (All-nil (Names entries)));
  places = two_places (Gives entries) o.1.1.0 o.1.1.1;
})
near_orders entries neighbours near.More is o = absurd o

pub orders_near : (entries : List Pair) (neighbours : List ℕ) (n : Near) → IsNear neighbours n → 1 ≤ length neighbours
    → length neighbours ≤ 2 → OrdersNeighbours entries neighbours → OrdersNear entries n
orders_near entries neighbours near.Nothing is some two o = absurd (let none : length neighbours ≡ 0 = ap length is in omega (arith, none, some))
orders_near entries neighbours (near.One y) is some two o =
    let p : OrdersNeighbours entries (y ∷ []) = rw is at o in
    (p.as_many, (All-head (Names entries) y [] p.named, p.places 1 (omega arith) (omega arith)))
orders_near entries neighbours (near.Two y z) is some two o =
    let p : OrdersNeighbours entries (y ∷ z ∷ []) = rw is at o in (
      p.as_many,
      (
        (
          All-head (Names entries) y (z ∷ []) p.named,
          All-head (Names entries) z [] (All-tail (Names entries) y (z ∷ []) p.named),
        ),
        (p.places 1 (omega arith) (omega arith), p.places 2 (omega arith) (omega arith)),
      ),
    )
orders_near entries neighbours near.More is some two o = absurd (omega (arith, is, two))

-- ---- the sites of the properties behind

-- the marks are those of the properties from place i on
pub record AreSeen (props : List Property) (i : ℕ) (seen : List Bool) : Type 0 where
  pub each : (k : ℕ) → k < length seen → get_or seen k false ≡ list_any (names_site (k + 1)) (drop i props)

pub seen-none : (props : List Property) (n : ℕ) (seen : List Bool) → seen ≡ replicate n false → AreSeen props (length props) seen
seen-none props n seen blank = record {
  each = λ k below.
      let at : get_or seen k false ≡ false = ap (λ (l : List Bool). get_or l k false) blank ∙ get_or-replicate n k false false (omega (arith, ap length blank, length-replicate n false)) in
      at ∙ ap (list_any (names_site (k + 1))) (sym (drop_all (length props) props (omega arith)));
}

-- one property more in front
pub seen-more : (props : List Property) (i : ℕ) (p : Property) (old new : List Bool) → i < length props → p ≡ get_or props i p → IsSeen p old new → AreSeen props (i + 1) old → AreSeen props i new
seen-more props i p old new below is marked seen = record {
  each = λ k inside.
      let within : k < length old = omega (arith, inside, marked.size) in
      let next : drop i props ≡ p ∷ drop (i + 1) props = drop_more props i p below ∙ ap (λ (q : Property). q ∷ drop (i + 1) props) (sym is) in
      marked.marked k within ∙ ap (λ (b : Bool). names_site (k + 1) p || b) (seen.each k within) ∙ ap (list_any (names_site (k + 1))) (sym next);
}

-- ---- one property

same_names : (order : SiteOrder) (later : Property) → OrdersSame order later → names_site (natural order.atom) later ≡ true
same_names order (kinds.Order later) same = eq-eqb (natural later.atom) (natural order.atom) (ap natural same)
same_names order other same = absurd same

pos_is : (z : ℤ) → 1 ≤ natural z → z ≡ pos (natural z)
pos_is (pos n) some = refl
pos_is other some = absurd (omega (arith, some))

names_same : (order : SiteOrder) (later : Property) (atoms : ℕ) → IsAtom atoms order.atom → names_site (natural order.atom) later ≡ true → OrdersSame order later
names_same order (kinds.Order later) atoms atom names =
    let number : natural later.atom ≡ natural order.atom = eqb-true (natural later.atom) (natural order.atom) names in
    pos_is later.atom (omega (arith, number, (atom_within atoms order.atom atom).0)) ∙ ap pos number ∙ sym (atom_is atoms order.atom atom)
names_same order other atoms atom names = absurd cc

-- a site of the table stands in its place
place_of : (table : RawTable) (x : ℕ) → HasSitePlace table x → 1 ≤ x → x ≤ length table.atoms → IsTrue (is_site_at table x) → ArePlaced table (drawn_neighbours table x)
place_of table x has least most site = by_atom (slice_get table.atoms (x - 1)) refl site
  where
    by_atom : (found : Option RawAtom) → slice_get table.atoms (x - 1) ≡ found → IsTrue (is_site_at table x) → ArePlaced table (drawn_neighbours table x)
    by_atom None e site = absurd (let no : is_site_at table x ≡ false = rw e refl in true≢false (sym site ∙ no))
    by_atom (Some atom) e site = has atom least e (rw e at site)

-- what is known of the atoms when the property at a place is looked at
pub record AreKnown (table : RawTable) (behind : ℕ) (marks : List Bool) (notes : List Near) (marked : List Bool) : Type 0 where
  pub sites : marks ≡ map is_site table.atoms
  pub near_size : length notes ≡ length table.atoms
  pub near : AreMarks (λ x. IsNear (drawn_neighbours table x)) notes
  pub seen_size : length marked ≡ length table.atoms
  pub seen : AreSeen table.props behind marked
  pub placed : (item : ℕ) → HasSitePlace table item

module _ (table : RawTable) (behind : ℕ) (sites : List Bool) (notes : List Near) (seen : List Bool) (known : AreKnown table behind sites notes seen) (order : SiteOrder) where
  sites_size : length sites ≡ length table.atoms
  sites_size = ap length known.sites ∙ length-map table.atoms is_site

  -- the mark of an atom is that of the properties behind
  mark_is : IsAtom (length table.atoms) order.atom → site_mark seen (natural order.atom) ≡ list_any (names_site (natural order.atom)) (drop behind table.props)
  mark_is atom =
      let within = atom_within (length table.atoms) order.atom atom in
      let place : natural order.atom - 1 + 1 ≡ natural order.atom = omega (arith, within.0) in
      known.seen.each (natural order.atom - 1) (omega (arith, within.0, within.1, known.seen_size)) ∙ ap (λ (x : ℕ). list_any (names_site x) (drop behind table.props)) place

  none_behind : IsAtom (length table.atoms) order.atom → site_mark seen (natural order.atom) ≡ false → All (λ later. ¬ (OrdersSame order later)) (drop behind table.props)
  none_behind atom unseen k d below same =
      let any : list_any (names_site (natural order.atom)) (drop behind table.props) ≡ true =
      list_any_at (names_site (natural order.atom)) (drop behind table.props) k d below (same_names order _ same) in
      true≢false (sym any ∙ sym (mark_is atom) ∙ unseen)

  unseen : IsAtom (length table.atoms) order.atom → All (λ later. ¬ (OrdersSame order later)) (drop behind table.props) → site_mark seen (natural order.atom) ≡ false
  unseen atom none = mark_is atom ∙ list_any_none (names_site (natural order.atom)) (drop behind table.props)
      (λ k d below. by_test k d below (names_site (natural order.atom) (get_or (drop behind table.props) k d)) refl)
    where
      by_test : (k : ℕ) (d : Property) → k < length (drop behind table.props) → (b : Bool)
          → names_site (natural order.atom) (get_or (drop behind table.props) k d) ≡ b
          → names_site (natural order.atom) (get_or (drop behind table.props) k d) ≡ false
      by_test k d below true e = absurd (none k d below (names_same order _ (length table.atoms) atom e))
      by_test k d below false e = e

  -- what is noted of the neighbours
  note_is : IsAtom (length table.atoms) order.atom → IsNear (drawn_neighbours table (natural order.atom)) (get_or notes (natural order.atom - 1) near.Nothing)
  note_is atom =
      let within = atom_within (length table.atoms) order.atom atom in
      marks-at (λ x. IsNear (drawn_neighbours table x)) notes (natural order.atom) near.Nothing within.0 (omega (arith, within.1, known.near_size)) known.near

  -- a site has one or two neighbours
  placed_is : IsAtom (length table.atoms) order.atom → IsTrue (is_site_at table (natural order.atom)) → ArePlaced table (drawn_neighbours table (natural order.atom))
  placed_is atom site =
      let within = atom_within (length table.atoms) order.atom atom in
      place_of table (natural order.atom) (known.placed (natural order.atom)) within.0 within.1 site

  pub order_right : IsOrderBy sites notes seen order → IsSiteOrder table (drop behind table.props) order
  order_right by =
      let atom : IsAtom (length table.atoms) order.atom = rw sites_size at by.atom in
      record {
        atom = atom;
        site = sym (site_noted table sites (natural order.atom) known.sites) ∙ by.site;
        last = none_behind atom by.last;
        orders = near_orders order.entries (drawn_neighbours table (natural order.atom)) _ (note_is atom) by.orders;
      }

  pub order_known : IsSiteOrder table (drop behind table.props) order → IsOrderBy sites notes seen order
  order_known is =
      let placed = placed_is is.atom is.site in
      record {
        atom = rw sites_size is.atom;
        site = site_noted table sites (natural order.atom) known.sites ∙ is.site;
        last = unseen is.atom is.last;
        orders = orders_near order.entries (drawn_neighbours table (natural order.atom)) _ (note_is is.atom) placed.some placed.two is.orders;
      }

-- what is noted of a property is what is demanded of it
pub ordered_is : (table : RawTable) (behind : ℕ) (sites : List Bool) (notes : List Near) (seen : List Bool) → AreKnown table behind sites notes seen → (p : Property)
    → IsOrderedBy sites notes seen p ↔ IsOrdered table (drop behind table.props) p
ordered_is table behind sites notes seen known (kinds.Order order) = (order_right table behind sites notes seen known order, order_known table behind sites notes seen known order)
ordered_is table behind sites notes seen known other = (λ t. t, λ t. t)

-- ---- from behind

-- the least item behind the first i that fails, or none
pub data FindsBehind (Demand : ℕ → Type 0) (i : ℕ) (found : Option ℕ) : Type 0 where
  none : found ≡ None → ((j : ℕ) → i < j → Demand j) → FindsBehind Demand i found
  some : (item : ℕ) → found ≡ Some item → i < item → ((j : ℕ) → i < j → j < item → Demand j) → ¬ (Demand item) → FindsBehind Demand i found

next : (Demand : ℕ → Type 0) (i j : ℕ) → Demand (i + 1) → i < j → (i + 1 < j → Demand j) → Demand j
next Demand i j right above later = ⊎_elim (λ more. later more) (λ here. let same : i + 1 ≡ j = omega arith in subst Demand same right) (cases_lt (i + 1) j)

at_zero : (Demand : ℕ → Type 0) (j : ℕ) → Demand 0 → (0 < j → Demand j) → Demand j
at_zero Demand j zero above = ⊎_elim (λ some. above some) (λ none. let same : 0 ≡ j = omega arith in subst Demand same zero) (cases_lt 0 j)

-- the item before is right
pub behind-right : (Demand : ℕ → Type 0) (i : ℕ) (found : Option ℕ) → Demand (i + 1) → FindsBehind Demand (i + 1) found → FindsBehind Demand i found
behind-right Demand i found right (none is all) = none is (λ j above. next Demand i j right above (λ later. all j later))
behind-right Demand i found right (some item is behind before fails) = some item is (omega arith) (λ j above below. next Demand i j right above (λ later. before j later below)) fails

-- or it isn't
pub behind-wrong : (Demand : ℕ → Type 0) (i : ℕ) → ¬ (Demand (i + 1)) → FindsBehind Demand i (Some (i + 1))
behind-wrong Demand i wrong = some (i + 1) refl (omega arith) (λ j above below. absurd (omega arith)) wrong

-- in front of all it is the least
pub behind-all : (Demand : ℕ → Type 0) (found : Option ℕ) → Demand 0 → FindsBehind Demand 0 found → FindsLeast Demand found
behind-all Demand found zero (none is all) = subst (FindsLeast Demand) (sym is) (λ item. at_zero Demand item zero (all item))
behind-all Demand found zero (some item is behind before fails) =
    subst (FindsLeast Demand) (sym is) (record {
      lower = λ j below. at_zero Demand j zero
          (λ above. before j above below);
      fails = fails;
    })

-- one property more, by what is noted
step : (table : RawTable) (j : ℕ) (p : Property) (sites : List Bool) (notes : List Near) (seen : List Bool)
    (right : Bool) (found found' : Option ℕ) → j < length table.props → p ≡ get_or table.props j p
    → AreKnown table (j + 1) sites notes seen → IsTrue right ↔ IsOrderedBy sites notes seen p
    → found' ≡ cond right found (Some (j + 1)) → FindsBehind (HasSiteOrder table) (j + 1) found
    → FindsBehind (HasSiteOrder table) j found'
step table j p sites notes seen right found found' below is known tested chosen behind =
    let same = ordered_is table (j + 1) sites notes seen known p in
    ⊎_elim
    (λ passed.
    let kept : found' ≡ found = chosen ∙ ap (λ b. cond b found (Some (j + 1))) passed in
    rw kept (behind-right (HasSiteOrder table) j found (of_item-here (IsOrdered table (drop (j + 1) table.props)) table.props j p is (same.0 (tested.0 passed))) behind))
    (λ failed.
    let named : found' ≡ Some (j + 1) = chosen ∙ ap (λ b. cond b found (Some (j + 1))) failed in
    rw named (behind-wrong (HasSiteOrder table) j (λ has. true≢false (sym (tested.1 (same.1 (of_item-at (IsOrdered table (drop (j + 1) table.props)) table.props j p below is has))) ∙ failed))))
    (cases_Bool right)

pub order_step : (table : RawTable) (i : ℕ) (p : Property) (sites : List Bool) (notes : List Near) (seen : List Bool)
    (right : Bool) (found found' : Option ℕ) → 0 < i → i ≤ length table.props → p ≡ get_or table.props (i - 1) p
    → AreKnown table i sites notes seen → IsTrue right ↔ IsOrderedBy sites notes seen p
    → found' ≡ cond right found (Some (i - 1 + 1)) → FindsBehind (HasSiteOrder table) i found
    → FindsBehind (HasSiteOrder table) (i - 1) found'
order_step table i p sites notes seen right found found' first few is known tested chosen behind =
    let place : i ≡ i - 1 + 1 = omega arith in
    step table (i - 1) p sites notes seen right found found' (omega arith) is
    (subst (λ (n : ℕ). AreKnown table n sites notes seen) place known) tested chosen
    (subst (λ (n : ℕ). FindsBehind (HasSiteOrder table) n found) place behind)

pub seen_step : (props : List Property) (i : ℕ) (p : Property) (old new : List Bool) → 0 < i → i ≤ length props
    → p ≡ get_or props (i - 1) p → IsSeen p old new → AreSeen props i old → AreSeen props (i - 1) new
seen_step props i p old new first few is marked seen = (let place : i ≡ i - 1 + 1 = omega arith
    in seen-more props (i - 1) p old new (omega arith) is marked (subst (λ (n : ℕ). AreSeen props n old) place seen))

-- behind the last property
pub orders-none : (table : RawTable) → FindsBehind (HasSiteOrder table) (length table.props) None
orders-none table = none refl (λ j past. of_item-past (IsOrdered table (drop j table.props)) table.props j past)

-- in front of all
pub orders-all : (table : RawTable) (i : ℕ) (found : Option ℕ) → i ≤ 0 → FindsBehind (HasSiteOrder table) i found → FindsLeast (HasSiteOrder table) found
orders-all table i found first behind =
    let zero : i ≡ 0 = omega arith in
    behind-all (HasSiteOrder table) found (items-none (IsOrdered table (drop 0 table.props)) table.props 0 (omega arith)) (subst (λ (n : ℕ). FindsBehind (HasSiteOrder table) n found) zero behind)
