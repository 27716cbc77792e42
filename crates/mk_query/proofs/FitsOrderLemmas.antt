-- The neighbours that a site names, of a table that passes.
--     joined_of           to a neighbour a bond leads
--     site_names          they are one atom or two, and are the neighbours
--     joined_names        so they are those to which its bonds lead
use Rattle.std.proofs.Common.{◌≡◌, ◌≢◌, ◌≤◌, ◌+◌, ◌-◌, ℕ, zero, suc, Bool, true, false, cond, eqb, List, [], ◌∷◌, Option, Some, None, refl, ap, sym, subst, ◌∙◌, length, arith, inl, inr, ⊎_elim}
use Rattle.std.specs.Prelude.{ℤ, pos, ◌⊎◌, ◌↔◌, ◌&&◌, ◌||◌, Contains, IsTrue, nat_lt, slice_get}
use Rattle.std.proofs.lemmas.Bool.{eq-eqb}
use Rattle.mk_props.specs.declared.property.Pair.{Pair}
use Rattle.mk_props.specs.declared.property.Property.{Property}
use Rattle.mk_props.specs.declared.property.Property.TheVariants as kinds
use Rattle.mk_props.specs.declared.property.SiteOrder.{SiteOrder}
use Rattle.mk_model.specs.declared.template.QueryBond.{QueryBond}
use Rattle.mk_model.specs.Edges.{Joins}
use Rattle.mk_model.specs.Templates.{joins, query_edge, query_edges}
use Rattle.mk_tables.specs.declared.raw.RawTable.{RawTable}
use Rattle.mk_demands.specs.Numbers.{natural}
use Rattle.mk_query.specs.Compiled.{atom_placed, neighbours_by, order_for, order_of, ordered_neighbours, rising_neighbours}
use Rattle.mk_query.specs.Drawn.{drawn_neighbours, neighbours_at, query_bonds}
use Rattle.mk_query.specs.FirstFault.{site_orders}
use Rattle.mk_query.specs.Passed.{HasPassed}
use Rattle.mk_query.specs.SiteChecks.{ArePlaced, OrdersNeighbours}
use Rattle.mk_query.proofs.FitsBondLemmas.{each_between, simple}
use Rattle.mk_query.proofs.FitsNeighbourLemmas.{ends_of, neighbour_of, same_number}

-- ---- neighbours and bonds

joins_forth : (x y : ℕ) (b : QueryBond) → b.first ≡ x → b.second ≡ y → IsTrue (joins x y b)
joins_forth x y b one two = rw (eq-eqb b.first x one, eq-eqb b.second y two) refl

or_right : (a : Bool) → (a || true) ≡ true
or_right true = refl
or_right false = refl

joins_back : (x y : ℕ) (b : QueryBond) → b.first ≡ y → b.second ≡ x → IsTrue (joins x y b)
joins_back x y b one two = rw (eq-eqb b.first y one, eq-eqb b.second x two) (or_right (eqb b.first x && eqb b.second y))

-- a bond that joins x and y
abbrev IsJoined : List QueryBond → ℕ → ℕ → Type 0
IsJoined bonds x y = (bond : QueryBond) × Contains bonds bond × IsTrue (joins x y bond)

joined_later : (b : QueryBond) (bonds : List QueryBond) (x y : ℕ) → IsJoined bonds x y → IsJoined (b ∷ bonds) x y
joined_later b bonds x y (bond, (k, below, is), joined) = (bond, (suc k, omega (arith, below), is), joined)

joined_by : (b : QueryBond) (bonds : List QueryBond) (x y : ℕ) (t u : Bool) → eqb b.first x ≡ t → eqb b.second x ≡ u → (Contains (neighbours_at bonds x) y → IsJoined bonds x y)
    → Contains (cond t (b.second ∷ neighbours_at bonds x) (cond u (b.first ∷ neighbours_at bonds x) (neighbours_at bonds x))) y → IsJoined (b ∷ bonds) x y
joined_by b bonds x y true u is_t is_u others (zero, below, is) = (b, (0, omega arith, refl), joins_forth x y b (same_number b.first x is_t) is)
joined_by b bonds x y true u is_t is_u others (suc k, below, is) = joined_later b bonds x y (others (k, omega (arith, below), is))
joined_by b bonds x y false true is_t is_u others (zero, below, is) = (b, (0, omega arith, refl), joins_back x y b is (same_number b.second x is_u))
joined_by b bonds x y false true is_t is_u others (suc k, below, is) = joined_later b bonds x y (others (k, omega (arith, below), is))
joined_by b bonds x y false false is_t is_u others at = joined_later b bonds x y (others at)

-- to a neighbour of x a bond leads
pub joined_of : (bonds : List QueryBond) (x y : ℕ) → Contains (neighbours_at bonds x) y → IsJoined bonds x y
joined_of [] x y (k, below, is) = absurd (omega (arith, below))
joined_of (b ∷ bonds) x y at = joined_by b bonds x y (eqb b.first x) (eqb b.second x) refl refl (joined_of bonds x y) at

-- ---- neighbours differ

abbrev JoinOnce : List QueryBond → Type 0
JoinOnce bonds = (b c x y : ℕ) → Joins (query_edges bonds) b x y → Joins (query_edges bonds) c x y → b ≡ c

joins_place : (bonds : List QueryBond) (x y : ℕ) → IsJoined bonds x y → (b : ℕ) × Joins (query_edges bonds) b x y
joins_place [] x y (bond, (k, below, is), joined) = absurd (omega (arith, below))
joins_place (b ∷ bonds) x y (bond, (zero, below, is), joined) = (0, record { edge = query_edge b; at = refl; ends = ends_of x y b (subst (λ (c : QueryBond). IsTrue (joins x y c)) (sym is) joined) })
joins_place (b ∷ bonds) x y (bond, (suc k, below, is), joined) =
    let (c, there) = joins_place bonds x y (bond, (k, omega (arith, below), is), joined) in
    (suc c, record { edge = there.edge; at = there.at; ends = there.ends })

-- a bond that stands before others joins no pair that they join
not_again : (b : QueryBond) (bonds : List QueryBond) (x y : ℕ) → JoinOnce (b ∷ bonds) → IsTrue (joins x y b) → Contains (neighbours_at bonds x) y → ⊥
not_again b bonds x y once joined at =
    let (c, there) = joins_place bonds x y (joined_of bonds x y at) in
    let first : Joins (query_edges (b ∷ bonds)) 0 x y = record { edge = query_edge b; at = refl; ends = ends_of x y b joined } in
    let later : Joins (query_edges (b ∷ bonds)) (suc c) x y = record { edge = there.edge; at = there.at; ends = there.ends } in
    absurd (omega (arith, once 0 (suc c) x y first later))

once_later : (b : QueryBond) (bonds : List QueryBond) → JoinOnce (b ∷ bonds) → JoinOnce bonds
once_later b bonds once c d x y one two =
    let one' : Joins (query_edges (b ∷ bonds)) (suc c) x y = record { edge = one.edge; at = one.at; ends = one.ends } in
    let two' : Joins (query_edges (b ∷ bonds)) (suc d) x y = record { edge = two.edge; at = two.at; ends = two.ends } in
    omega (arith, once (suc c) (suc d) x y one' two')

heads : (y : ℕ) (ys : List ℕ) (z w : ℕ) → y ∷ ys ≡ z ∷ w ∷ [] → (y ≡ z) × (ys ≡ w ∷ [])
heads y ys z w e = (cc, cc)

differ_by : (b : QueryBond) (bonds : List QueryBond) (x y z : ℕ) (t u : Bool) → eqb b.first x ≡ t → eqb b.second x ≡ u → JoinOnce (b ∷ bonds) → (neighbours_at bonds x ≡ y ∷ z ∷ [] → y ≢ z)
    → cond t (b.second ∷ neighbours_at bonds x) (cond u (b.first ∷ neighbours_at bonds x) (neighbours_at bonds x)) ≡ y ∷ z ∷ [] → y ≢ z
differ_by b bonds x y z true u is_t is_u once others are same =
    let (head, rest) = heads b.second (neighbours_at bonds x) y z are in
    not_again b bonds x z once (joins_forth x z b (same_number b.first x is_t) (head ∙ same)) (rw rest (0, omega arith, refl))
differ_by b bonds x y z false true is_t is_u once others are same =
    let (head, rest) = heads b.first (neighbours_at bonds x) y z are in
    not_again b bonds x z once (joins_back x z b (head ∙ same) (same_number b.second x is_u)) (rw rest (0, omega arith, refl))
differ_by b bonds x y z false false is_t is_u once others are same = others are same

pub neighbours_differ : (bonds : List QueryBond) (x y z : ℕ) → JoinOnce bonds → neighbours_at bonds x ≡ y ∷ z ∷ [] → y ≢ z
neighbours_differ [] x y z once are = absurd cc
neighbours_differ (b ∷ bonds) x y z once are =
    differ_by b bonds x y z (eqb b.first x) (eqb b.second x) refl refl once (neighbours_differ bonds x y z (once_later b bonds once)) are

-- ---- lists of one and of two

one_there : {X : Type 0} (a x : X) → Contains (a ∷ []) x → a ≡ x
one_there a x (zero, below, is) = is
one_there a x (suc k, below, is) = absurd (omega (arith, below))

two_there : {X : Type 0} (a b x : X) → Contains (a ∷ b ∷ []) x → (a ≡ x) ⊎ (b ≡ x)
two_there a b x (zero, below, is) = inl is
two_there a b x (suc zero, below, is) = inr is
two_there a b x (suc (suc k), below, is) = absurd (omega (arith, below))

-- ---- orders

-- the neighbours in some order: both, or the one and 0
abbrev pub AreOrderOf : List ℕ → ℕ × ℕ → Type 0
AreOrderOf [] both = ⊥
AreOrderOf (y ∷ []) both = (both.0 ≡ y) × (both.1 ≡ 0)
AreOrderOf (y ∷ z ∷ []) both = ((both.0 ≡ y) × (both.1 ≡ z)) ⊎ ((both.0 ≡ z) × (both.1 ≡ y))
AreOrderOf (y ∷ z ∷ w ∷ ws) both = ⊥

rising_order : (ns : List ℕ) → 1 ≤ length ns → length ns ≤ 2 → AreOrderOf ns (rising_neighbours ns)
rising_order [] some two = absurd (omega (arith, some))
rising_order (y ∷ []) some two = (refl, refl)
rising_order (y ∷ z ∷ []) some two = by_order (nat_lt y z)
  where
    by_order : (b : Bool) → AreOrderOf (y ∷ z ∷ []) (cond b (y, z) (z, y))
    by_order true = inl (refl, refl)
    by_order false = inr (refl, refl)
rising_order (y ∷ z ∷ w ∷ ws) some two = absurd (omega (arith, two))

placed_one : (p : Pair) (y : ℕ) → p.atom ≡ pos y → p.value ≡ pos 1 → AreOrderOf (y ∷ []) (atom_placed 1 (p ∷ []), atom_placed 2 (p ∷ []))
placed_one p y atom value = rw (value, atom) (refl, refl)

placed_two : (p q : Pair) (y z : ℕ) → ((p.atom ≡ pos y) × (q.atom ≡ pos z)) ⊎ ((q.atom ≡ pos y) × (p.atom ≡ pos z)) → ((p.value ≡ pos 1) × (q.value ≡ pos 2)) ⊎ ((q.value ≡ pos 1) × (p.value ≡ pos 2))
    → AreOrderOf (y ∷ z ∷ []) (atom_placed 1 (p ∷ q ∷ []), atom_placed 2 (p ∷ q ∷ []))
placed_two p q y z (inl atoms) (inl values) = rw (values.0, values.1, atoms.0, atoms.1) (inl (refl, refl))
placed_two p q y z (inl atoms) (inr values) = rw (values.0, values.1, atoms.0, atoms.1) (inr (refl, refl))
placed_two p q y z (inr atoms) (inl values) = rw (values.0, values.1, atoms.0, atoms.1) (inr (refl, refl))
placed_two p q y z (inr atoms) (inr values) = rw (values.0, values.1, atoms.0, atoms.1) (inl (refl, refl))

-- two different things are told of two entries, one of each
told_apart : (f : Pair → ℤ) (p q : Pair) (a b : ℤ) → a ≢ b → (one : Pair) → Contains (p ∷ q ∷ []) one → f one ≡ a → (other : Pair) → Contains (p ∷ q ∷ []) other → f other ≡ b
    → ((f p ≡ a) × (f q ≡ b)) ⊎ ((f q ≡ a) × (f p ≡ b))
told_apart f p q a b differ one one_at one_is other other_at other_is = by_places (two_there p q one one_at) (two_there p q other other_at)
  where
    by_places : (p ≡ one) ⊎ (q ≡ one) → (p ≡ other) ⊎ (q ≡ other) → ((f p ≡ a) × (f q ≡ b)) ⊎ ((f q ≡ a) × (f p ≡ b))
    by_places (inl i) (inl j) = absurd (differ (sym one_is ∙ sym (ap f i) ∙ ap f j ∙ other_is))
    by_places (inl i) (inr j) = inl (ap f i ∙ one_is, ap f j ∙ other_is)
    by_places (inr i) (inl j) = inr (ap f i ∙ one_is, ap f j ∙ other_is)
    by_places (inr i) (inr j) = absurd (differ (sym one_is ∙ sym (ap f i) ∙ ap f j ∙ other_is))

pos_differ : (y z : ℕ) → y ≢ z → pos y ≢ pos z
pos_differ y z differ e = differ (ap natural e)

placed_order : (entries : List Pair) (ns : List ℕ) → OrdersNeighbours entries ns → 1 ≤ length ns → length ns ≤ 2
    → ((y z : ℕ) → ns ≡ y ∷ z ∷ [] → y ≢ z) → AreOrderOf ns (atom_placed 1 entries, atom_placed 2 entries)
placed_order entries [] orders some two differ = absurd (omega (arith, some))
placed_order [] (y ∷ []) orders some two differ = absurd (omega (arith, orders.as_many))
placed_order (p ∷ []) (y ∷ []) orders some two differ =
    let name = orders.named 0 y (omega arith) in
    let place = orders.places 1 (omega arith) (omega arith) in
    placed_one p y (ap (λ (e : Pair). e.atom) (one_there p name.0 name.1) ∙ name.2) (ap (λ (e : Pair). e.value) (one_there p place.0 place.1) ∙ place.2)
placed_order (p ∷ q ∷ ps) (y ∷ []) orders some two differ = absurd (omega (arith, orders.as_many))
placed_order [] (y ∷ z ∷ []) orders some two differ = absurd (omega (arith, orders.as_many))
placed_order (p ∷ []) (y ∷ z ∷ []) orders some two differ = absurd (omega (arith, orders.as_many))
placed_order (p ∷ q ∷ []) (y ∷ z ∷ []) orders some two differ =
    let name = orders.named 0 y (omega arith) in
    let name' = orders.named 1 z (omega arith) in
    let place = orders.places 1 (omega arith) (omega arith) in
    let place' = orders.places 2 (omega arith) (omega arith) in
    placed_two p q y z (told_apart (λ e. e.atom) p q (pos y) (pos z) (pos_differ y z (differ y z refl)) name.0 name.1 name.2 name'.0 name'.1 name'.2)
    (told_apart (λ e. e.value) p q (pos 1) (pos 2) (pos_differ 1 2 (λ e. absurd cc)) place.0 place.1 place.2 place'.0 place'.1 place'.2)
placed_order (p ∷ q ∷ r ∷ ps) (y ∷ z ∷ []) orders some two differ = absurd (omega (arith, orders.as_many))
placed_order entries (y ∷ z ∷ w ∷ ws) orders some two differ = absurd (omega (arith, two))

-- ---- the order that holds

abbrev IsFoundIn : ℕ → List Property → List Pair → Type 0
IsFoundIn x props entries = (k : ℕ) × (order : SiteOrder) × (slice_get props k ≡ Some (kinds.Order order)) × (natural order.atom ≡ x) × (order.entries ≡ entries)

found_later : (x : ℕ) (p : Property) (props : List Property) (entries : List Pair) → IsFoundIn x props entries → IsFoundIn x (p ∷ props) entries
found_later x p props entries (k, order, at, atom, is) = (suc k, order, at, atom, is)

same_entries : (a b : List Pair) → Some a ≡ Some b → a ≡ b
same_entries a b e = cc

found_by : (x : ℕ) (p : Property) (props : List Property) (entries : List Pair)
    → order_of x p (order_for x props) ≡ Some entries → (order_for x props ≡ Some entries → IsFoundIn x props entries)
    → IsFoundIn x (p ∷ props) entries
found_by x (kinds.Order order) props entries is later = by_test (eqb (natural order.atom) x) refl is
  where
    by_test : (b : Bool) → eqb (natural order.atom) x ≡ b → cond b (Some order.entries) (order_for x props) ≡ Some entries → IsFoundIn x (kinds.Order order ∷ props) entries
    by_test true e here = (0, order, refl, same_number (natural order.atom) x e, same_entries order.entries entries here)
    by_test false e here = found_later x (kinds.Order order) props entries (later here)
found_by x p props entries is later = found_later x p props entries (later is)

order_found : (x : ℕ) (props : List Property) (entries : List Pair) → order_for x props ≡ Some entries → IsFoundIn x props entries
order_found x [] entries is = absurd cc
order_found x (p ∷ props) entries is = found_by x p props entries is (order_found x props entries)

orders_right : (table : RawTable) (x : ℕ) (entries : List Pair) → HasPassed table → IsFoundIn x table.props entries → OrdersNeighbours entries (drawn_neighbours table x)
orders_right table x entries passed (k, order, at, atom, is) =
    let place : k + 1 - 1 ≡ k = omega arith in
    let right = passed.passes site_orders (k + 1) (kinds.Order order) (omega arith) (rw place at) in
    subst (λ (n : ℕ). OrdersNeighbours entries (drawn_neighbours table n)) atom (subst (λ (e : List Pair). OrdersNeighbours e (drawn_neighbours table (natural order.atom))) is right.orders)

-- the neighbours of a site stand in the order that holds
ordered : (table : RawTable) (x : ℕ) → HasPassed table → ArePlaced table (drawn_neighbours table x) → AreOrderOf (drawn_neighbours table x) (ordered_neighbours table x)
ordered table x passed placed = by_order (order_for x table.props) refl
  where
    by_order : (found : Option (List Pair)) → order_for x table.props ≡ found → AreOrderOf (drawn_neighbours table x) (neighbours_by found (drawn_neighbours table x))
    by_order None e = rising_order (drawn_neighbours table x) placed.some placed.two
    by_order (Some entries) e =
        placed_order entries (drawn_neighbours table x) (orders_right table x entries passed (order_found x table.props entries e)) placed.some placed.two
        (λ y z are. neighbours_differ (query_bonds table.bonds) x y z (simple table passed).once are)

-- ---- what a site names

abbrev pub NamesThese : List ℕ → ℕ × ℕ → Type 0
NamesThese ns both = (both.0 ≢ 0) × (both.0 ≢ both.1) × ((y : ℕ) → Contains ns y ↔ ((y ≡ both.0) ⊎ ((y ≡ both.1) × (both.1 ≢ 0))))

in_two : (a b y : ℕ) → (y ≡ a) ⊎ ((y ≡ b) × (b ≢ 0)) → Contains (a ∷ b ∷ []) y
in_two a b y (inl e) = (0, omega arith, sym e)
in_two a b y (inr e) = (1, omega arith, sym e.0)

in_two_back : (a b y : ℕ) → (y ≡ a) ⊎ ((y ≡ b) × (b ≢ 0)) → Contains (b ∷ a ∷ []) y
in_two_back a b y (inl e) = (1, omega arith, sym e)
in_two_back a b y (inr e) = (0, omega arith, sym e.0)

names_these : (ns : List ℕ) (both : ℕ × ℕ) → AreOrderOf ns both → ((y : ℕ) → Contains ns y → y ≢ 0) → ((y z : ℕ) → ns ≡ y ∷ z ∷ [] → y ≢ z) → NamesThese ns both
names_these [] both order some differ = absurd order
names_these (y ∷ []) (first, second) (is, none) some differ = (
  λ e. some y (0, omega arith, refl) (sym is ∙ e),
  λ e. some y (0, omega arith, refl) (sym is ∙ e ∙ none),
  λ w. (
    λ at. inl (sym (one_there y w at) ∙ sym is),
    λ told. ⊎_elim (λ e. (0, omega arith, sym (e ∙ is))) (λ e. absurd (e.1 none)) told,
  ),
)
names_these (y ∷ z ∷ []) (first, second) (inl (one, two)) some differ =
    let nonzero : second ≢ 0 = λ e. some z (1, omega arith, refl) (sym two ∙ e) in (
      λ e. some y (0, omega arith, refl) (sym one ∙ e),
      λ e. differ y z refl (sym one ∙ e ∙ two),
      λ w. (
        λ at. ⊎_elim (λ e. inl (sym e ∙ sym one)) (λ e. inr (sym e ∙ sym two, nonzero)) (two_there y z w at),
        λ told. subst (λ (l : List ℕ). Contains l w) (ap (λ (m : ℕ). m ∷ second ∷ []) one ∙ ap (λ (m : ℕ). y ∷ m ∷ []) two) (in_two first second w told),
      ),
    )
names_these (y ∷ z ∷ []) (first, second) (inr (one, two)) some differ =
    let nonzero : second ≢ 0 = λ e. some y (0, omega arith, refl) (sym two ∙ e) in (
      λ e. some z (1, omega arith, refl) (sym one ∙ e),
      λ e. differ y z refl (sym two ∙ sym e ∙ one),
      λ w. (
        λ at. ⊎_elim (λ e. inr (sym e ∙ sym two, nonzero)) (λ e. inl (sym e ∙ sym one)) (two_there y z w at),
        λ told. subst (λ (l : List ℕ). Contains l w) (ap (λ (m : ℕ). m ∷ first ∷ []) two ∙ ap (λ (m : ℕ). y ∷ m ∷ []) one) (in_two_back first second w told),
      ),
    )
names_these (y ∷ z ∷ w ∷ ws) both order some differ = absurd order

-- a neighbour is an atom
not_zero : (table : RawTable) (x y : ℕ) → HasPassed table → Contains (drawn_neighbours table x) y → y ≢ 0
not_zero table x y passed at none =
    let (bond, (k, below, is), joined) = joined_of (query_bonds table.bonds) x y at in
    let ends = each_between table passed k bond below in
    let first : 1 ≤ bond.first = rw is at ends.first.0 in
    let second : 1 ≤ bond.second = rw is at ends.second.0 in
    ⊎_elim (λ forth. omega (arith, second, forth.1, none)) (λ back. omega (arith, first, back.0, none)) (ends_of x y bond joined)

-- they are one atom or two, those to which the bonds of the site lead
pub site_names : (table : RawTable) (x : ℕ) → HasPassed table → ArePlaced table (drawn_neighbours table x) → NamesThese (drawn_neighbours table x) (ordered_neighbours table x)
site_names table x passed placed =
    names_these (drawn_neighbours table x) (ordered_neighbours table x) (ordered table x passed placed) (λ y at. not_zero table x y passed at)
    (λ y z are. neighbours_differ (query_bonds table.bonds) x y z (simple table passed).once are)

-- the same of the bonds themselves
pub joined_names : (table : RawTable) (x : ℕ) → HasPassed table → ArePlaced table (drawn_neighbours table x)
    → (y : ℕ) → ((bond : QueryBond) × Contains (query_bonds table.bonds) bond × IsTrue (joins x y bond)) ↔
    ((y ≡ (ordered_neighbours table x).0) ⊎ ((y ≡ (ordered_neighbours table x).1)
    × ((ordered_neighbours table x).1 ≢ 0)))
joined_names table x passed placed y =
    let named = (site_names table x passed placed).2 y in (
      λ joined. named.0 (neighbour_of (query_bonds table.bonds) x y joined.0 joined.1 joined.2),
      λ told. joined_of (query_bonds table.bonds) x y (named.1 told),
    )
