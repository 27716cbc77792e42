-- Whether an item of a table meets a check is known.
--     known_demand         of every check and every item
--     first_in_table       so a table passes, or it has a first fault
use Rattle.std.proofs.Common.{◌≡◌, ◌<◌, ◌≤◌, ◌+◌, ◌-◌, ℕ, zero, suc, Bool, true, false, List, [], ◌∷◌, Option, Some, None, IsTrue, refl, sym, ap, subst, ◌∙◌, arith, inl, inr, length, drop, take, ⊎_elim}
use Rattle.std.specs.Int.Signed.{≤ℤ_refl}
use Rattle.std.specs.Prelude.{ℤ, pos, negsuc, ◌⊎◌, ◌≢◌, AllPairs, codes, slice_get}
use Rattle.std.proofs.lemmas.Bool.{cases_eq}
use Rattle.std.proofs.lemmas.List.{take_all}
use Rattle.std.proofs.lemmas.List.Kept.{AllPairs-cons}
use Rattle.mk_elements.specs.Symbols.{NamesElement, symbols}
use Rattle.mk_text.specs.Items.{IsLeastFailing}
use Rattle.mk_text.proofs.ForCallers.{of_item-past}
use Rattle.mk_props.specs.declared.property.LinkEntry.{LinkEntry}
use Rattle.mk_props.specs.declared.property.LogicLine.{LogicLine}
use Rattle.mk_props.specs.declared.property.Pair.{Pair}
use Rattle.mk_props.specs.declared.property.Property.{Property}
use Rattle.mk_props.specs.declared.property.Property.TheVariants as kinds
use Rattle.mk_props.specs.declared.property.SiteOrder.{SiteOrder}
use Rattle.mk_model.specs.declared.edge.Edge.{Edge}
use Rattle.mk_model.specs.declared.group.Interval.{Interval}
use Rattle.mk_model.specs.declared.template.QueryBond.{QueryBond}
use Rattle.mk_model.specs.Edges.{degree}
use Rattle.mk_model.specs.Templates.{joins}
use Rattle.mk_tables.specs.declared.raw.RawAtom.{RawAtom}
use Rattle.mk_tables.specs.declared.raw.RawBond.{RawBond}
use Rattle.mk_tables.specs.declared.raw.RawTable.{RawTable}
use Rattle.mk_demands.specs.Bonds.{HasFewBonds, IsNewBond, JoinSame, edges_of}
use Rattle.mk_demands.specs.Numbers.{IsAtom, IsWithin, natural}
use Rattle.mk_demands.specs.Values.{AreForAtoms, HaveValues}
use Rattle.mk_logic.specs.RangeReading.{range_of}
use Rattle.mk_logic.specs.RangeTexts.{IsRangeText}
use Rattle.mk_logic.proofs.ForCallers.{range_is_read}
use Rattle.mk_rgfile.specs.declared.raw_query.RawGroup.{RawGroup}
use Rattle.mk_query.specs.declared.checking.Fault.{Fault}
use Rattle.mk_query.specs.Checks.{HasQueryType, HasQueryValues, IsElementName, IsQueryAtom, IsQueryBond, IsQueryProperty, IsQueryWord, IsRingBondCount, NamesItsAtoms}
use Rattle.mk_query.specs.Drawn.{ElementList, bears_point, by_numbers, by_symbols, drawn_neighbours, is_site, is_site_at, labels_at, links_at, lists_at, query_bonds}
use Rattle.mk_query.specs.FirstFault.{QueryCheck, QueryDemands, IsFirstFault, PassesAll, PassesBelow, attachment_points, element_lists, group_logic, link_atoms, query_check_number, query_atoms, query_bonds as bonds_checked, query_properties, labelled_sites, site_orders, site_places}
use Rattle.mk_query.specs.LinkChecks.{AreRightLinks, BearsSome, IsInBlock, CanBeLink, IsLogical, IsPlainBut, IsPointed, LeadAlike, SpeaksOfSame}
use Rattle.mk_query.specs.SiteChecks.{ArePlaced, HasKnownMembers, HasMember, IsLabelled, IsListed, IsOrdered, OrdersNeighbours, OrdersSame}
use Rattle.mk_query.proofs.FaultLemmas.{below_all, below_more, below_none}
use Rattle.mk_query.proofs.KnownLemmas.{Known, SomeBelow, SomeOf, known_all, known_as, known_below, known_both, known_bytes, known_either, known_equal, known_if, known_iff, known_integers, known_item, known_most, known_not, known_some, known_some_below, known_some_items, known_true, known_within, least_failing}

-- ---- symbols

-- some place of a list holds the bytes
known_place : (xs : List (List ℕ)) (symbol : List ℕ) → Known ((k : ℕ) × (slice_get xs k ≡ Some symbol))
known_place [] symbol = inr (λ found. let at = found.1 in absurd cc)
known_place (x ∷ xs) symbol = known_as (known_either (known_bytes x symbol) (known_place xs symbol)) to back
  where
    to : (x ≡ symbol) ⊎ ((k : ℕ) × (slice_get xs k ≡ Some symbol)) → (k : ℕ) × (slice_get (x ∷ xs) k ≡ Some symbol)
    to (inl same) = (0, ap Some same)
    to (inr (k, at)) = (suc k, at)

    back : (k : ℕ) × (slice_get (x ∷ xs) k ≡ Some symbol) → (x ≡ symbol) ⊎ ((k : ℕ) × (slice_get xs k ≡ Some symbol))
    back (zero, at) = inl cc
    back (suc k, at) = inr (k, at)

known_name : (symbol : List ℕ) → Known (IsElementName symbol)
known_name symbol = known_as (known_either (known_place symbols symbol) (known_either (known_bytes symbol (codes "D")) (known_bytes symbol (codes "T")))) to back
  where
    to : ((k : ℕ) × (slice_get symbols k ≡ Some symbol)) ⊎ ((symbol ≡ codes "D") ⊎ (symbol ≡ codes "T")) → IsElementName symbol
    to (inl (k, at)) = (let place : k + 1 - 1 ≡ k = omega arith in record { element = k + 1; names = inl (omega arith, rw place at) })
    to (inr heavy) = record { element = 1; names = inr (refl, heavy) }

    by_name : (z : ℕ) → NamesElement symbol z → ((k : ℕ) × (slice_get symbols k ≡ Some symbol)) ⊎ ((symbol ≡ codes "D") ⊎ (symbol ≡ codes "T"))
    by_name z (inl is) = inl (z - 1, is.1)
    by_name z (inr heavy) = inr heavy.1

    back : IsElementName symbol → ((k : ℕ) × (slice_get symbols k ≡ Some symbol)) ⊎ ((symbol ≡ codes "D") ⊎ (symbol ≡ codes "T"))
    back is = by_name is.element is.names

known_word : (symbol : List ℕ) → Known (IsQueryWord symbol)
known_word symbol =
    known_either (known_bytes symbol (codes "L")) (known_either (known_bytes symbol (codes "A"))
    (known_either (known_bytes symbol (codes "Q")) (known_either (known_bytes symbol (codes "*"))
    (known_bytes symbol (codes "R#")))))

known_atom : (atom : RawAtom) → Known (IsQueryAtom atom)
known_atom atom =
    known_as (known_both (known_either (known_name atom.symbol) (known_word atom.symbol)) (known_both (known_within (pos 0) (pos 7) atom.charge) (known_within (pos 0) (pos 5) atom.hydrogens)))
    (λ all. record { symbol = all.0; charge = all.1.0; hydrogens = all.1.1 }) (λ is. (is.symbol, (is.charge, is.hydrogens)))

-- ---- bonds

known_same_ends : (other bond : RawBond) → Known (JoinSame other bond)
known_same_ends other bond =
    known_either (known_both (known_integers other.first bond.first) (known_integers other.second bond.second))
    (known_both (known_integers other.first bond.second) (known_integers other.second bond.first))

known_new : (atoms : ℕ) (earlier : List RawBond) (bond : RawBond) → Known (IsNewBond atoms earlier bond)
known_new atoms earlier bond =
    known_as
    (known_both (known_both (known_within (pos 1) (pos atoms) bond.first) (known_both (known_within (pos 1) (pos atoms) bond.second) (known_not (known_integers bond.first bond.second))))
    (known_all (λ other. JoinSame other bond → ⊥) (λ other. known_not (known_same_ends other bond)) earlier))
    (λ all. record { ends = record { first = all.0.0; second = all.0.1.0; differ = all.0.1.1 }; new = all.1 })
    (λ is. ((is.ends.first, (is.ends.second, is.ends.differ)), is.new))

known_few : (atoms : ℕ) (edges : List Edge) → Known ((n : ℕ) → HasFewBonds atoms edges n)
known_few atoms edges =
    known_as (known_below (HasFewBonds atoms edges) (λ n. known_if (known_most 1 n) (known_if (known_most n atoms) (known_most (degree edges n) 20))) (atoms + 1))
    (λ below n least most. below n (omega (arith, most)) least most) (λ all n below. all n)

known_type : (bond : RawBond) → Known (HasQueryType bond)
known_type bond =
    known_as (known_both (known_within (pos 1) (pos 8) bond.kind) (known_within (pos 0) (pos 2) bond.topology)) (λ both. record { kind = both.0; topology = both.1 }) (λ is. (is.kind, is.topology))

known_bond : (atoms : ℕ) (bonds : List RawBond) (item : ℕ) → Known (IsQueryBond atoms bonds item)
known_bond atoms bonds item =
    known_as
    (known_both (known_item (IsNewBond atoms (take (item - 1) bonds)) (known_new atoms (take (item - 1) bonds)) bonds
    item) (known_both (known_item HasQueryType known_type bonds item)
    (known_few atoms (edges_of (take item bonds)))))
    (λ all. record { new = all.0; columns = all.1.0; few = all.1.1 }) (λ is. (is.new, (is.columns, is.few)))

-- a number past the last bond is right where all bonds are
bonds_past : (atoms : ℕ) (bonds : List RawBond) → ((j : ℕ) → j < length bonds + 1 → IsQueryBond atoms bonds j) → (k : ℕ) → length bonds + 1 ≤ k → IsQueryBond atoms bonds k
bonds_past atoms bonds before k past =
    let all : take k bonds ≡ take (length bonds) bonds = take_all k bonds (omega (arith, past)) ∙ sym (take_all (length bonds) bonds (omega arith)) in
    record {
      new = of_item-past (IsNewBond atoms (take (k - 1) bonds)) bonds k (omega (arith, past));
      columns = of_item-past HasQueryType bonds k (omega (arith, past));
      few = subst (λ (l : List RawBond). (n : ℕ) → HasFewBonds atoms (edges_of l) n) (sym all) (before (length bonds) (omega arith)).few;
    }

-- ---- properties

known_atoms_of : (atoms : ℕ) (pairs : List Pair) → Known (AreForAtoms atoms pairs)
known_atoms_of atoms pairs = known_all (λ (pair : Pair). IsAtom atoms pair.atom) (λ pair. known_within (pos 1) (pos atoms) pair.atom) pairs

known_values : (low high : ℤ) (pairs : List Pair) → Known (HaveValues low high pairs)
known_values low high pairs = known_all (λ (pair : Pair). IsWithin low high pair.value) (λ pair. known_within low high pair.value) pairs

known_named : (atoms : ℕ) (property : Property) → Known (NamesItsAtoms atoms property)
known_named atoms (kinds.Charge pairs) = known_atoms_of atoms pairs
known_named atoms (kinds.Radical pairs) = known_atoms_of atoms pairs
known_named atoms (kinds.Isotope pairs) = known_atoms_of atoms pairs
known_named atoms (kinds.RingBonds pairs) = known_atoms_of atoms pairs
known_named atoms (kinds.Substitution pairs) = known_atoms_of atoms pairs
known_named atoms (kinds.Unsaturation pairs) = known_atoms_of atoms pairs
known_named atoms (kinds.Label pairs) = known_atoms_of atoms pairs
known_named atoms (kinds.Points pairs) = known_atoms_of atoms pairs
known_named atoms (kinds.Link links) = known_all (λ (link : LinkEntry). IsAtom atoms link.atom) (λ link. known_within (pos 1) (pos atoms) link.atom) links
known_named atoms (kinds.List list) = known_within (pos 1) (pos atoms) list.atom
known_named atoms (kinds.Order order) = known_within (pos 1) (pos atoms) order.atom
known_named atoms other = inl tt

known_count : (value : ℤ) → Known (IsRingBondCount value)
known_count value =
    known_as (known_both (known_within (negsuc 1) (pos 4) value) (known_not (known_integers value (pos 1)))) (λ both. record { within = both.0; not_one = both.1 }) (λ is. (is.within, is.not_one))

known_given : (property : Property) → Known (HasQueryValues property)
known_given (kinds.Charge pairs) = known_values (negsuc 14) (pos 15) pairs
known_given (kinds.Radical pairs) = known_values (pos 0) (pos 3) pairs
known_given (kinds.RingBonds pairs) = known_all (λ (pair : Pair). IsRingBondCount pair.value) (λ pair. known_count pair.value) pairs
known_given (kinds.Substitution pairs) = known_values (negsuc 1) (pos 6) pairs
known_given (kinds.Unsaturation pairs) = known_values (pos 0) (pos 1) pairs
known_given (kinds.Label pairs) = known_values (pos 1) (pos 32) pairs
known_given (kinds.Points pairs) = known_values (pos 1) (pos 3) pairs
known_given other = inl tt

known_property : (atoms : ℕ) (property : Property) → Known (IsQueryProperty atoms property)
known_property atoms property = known_as (known_both (known_named atoms property) (known_given property)) (λ both. record { named = both.0; values = both.1 }) (λ is. (is.named, is.values))

-- ---- lists and labels

known_members : (list : ElementList) → Known (HasKnownMembers list)
known_members (by_numbers list) = known_all (IsWithin (pos 1) (pos 118)) (known_within (pos 1) (pos 118)) list.numbers
known_members (by_symbols list) = known_all IsElementName known_name list.symbols

known_listed : (lists : List ElementList) (atom : RawAtom) → Known (IsListed lists atom)
known_listed lists atom =
    known_as (known_both (known_all HasKnownMembers known_members lists) (known_iff (known_bytes atom.symbol (codes "L")) (known_not (known_some_items lists))))
    (λ both. record { members = both.0; word = both.1 }) (λ is. (is.members, is.word))

known_member : (groups : List RawGroup) (label : ℤ) → Known (HasMember groups label)
known_member groups label =
    known_as (known_some (λ (group : RawGroup). (pos group.number ≡ label) × (1 ≤ length group.members))
    (λ group. known_both (known_integers (pos group.number) label) (known_most 1 (length group.members))) groups)
    (λ some. (some.0, some.1, some.2.0, some.2.1)) (λ has. (has.0, has.1, (has.2, has.3)))

-- no item of a list is alike a later one
known_apart : (labels : List ℤ) → Known (AllPairs (λ label later. label ≢ later) labels)
known_apart [] = inl (λ i j d less below. absurd (omega (arith, below)))
known_apart (label ∷ labels) =
    known_as (known_both (known_all (λ (later : ℤ). label ≡ later → ⊥) (λ later. known_not (known_integers label later)) labels) (known_apart labels))
    (λ parts. AllPairs-cons (λ label later. label ≢ later) label labels parts.0 parts.1)
    (λ all. (λ k d below. all 0 (suc k) d (omega arith) (omega (arith, below)), λ i j d less below. all (suc i) (suc j) d (omega (arith, less)) (omega (arith, below))))

known_labelled : (groups : List RawGroup) (labels : List ℤ) (atom : RawAtom) → Known (IsLabelled groups labels atom)
known_labelled groups labels atom =
    known_as
    (known_both (known_iff (known_true (is_site atom)) (known_not (known_some_items labels))) (known_both (known_apart labels) (known_all (HasMember groups) (known_member groups) labels)))
    (λ all. record { word = all.0; once = all.1.0; members = all.1.1 }) (λ is. (is.word, (is.once, is.members)))

-- ---- sites

module _ (table : RawTable) where
  known_placed : (neighbours : List ℕ) → Known (ArePlaced table neighbours)
  known_placed neighbours =
      known_as
      (known_both (known_most 1 (length neighbours)) (known_both (known_most (length neighbours) 2)
      (known_all (λ (y : ℕ). IsTrue (is_site_at table y) → ⊥) (λ y. known_not (known_true (is_site_at table y)))
      neighbours)))
      (λ all. record { some = all.0; two = all.1.0; apart = all.1.1 }) (λ are. (are.some, (are.two, are.apart)))

  known_orders : (entries : List Pair) (neighbours : List ℕ) → Known (OrdersNeighbours entries neighbours)
  known_orders entries neighbours =
      known_as
      (known_both (known_equal (length entries) (length neighbours))
      (known_both (known_all (λ (y : ℕ). SomeOf (λ (pair : Pair). pair.atom ≡ pos y) entries)
      (λ y. known_some (λ (pair : Pair). pair.atom ≡ pos y) (λ pair. known_integers pair.atom (pos y)) entries)
      neighbours)
      (known_below (λ k. 1 ≤ k → SomeOf (λ (pair : Pair). pair.value ≡ pos k) entries)
      (λ k. known_if (known_most 1 k) (known_some (λ (pair : Pair). pair.value ≡ pos k)
      (λ pair. known_integers pair.value (pos k)) entries)) (length neighbours + 1))))
      (λ all. record { as_many = all.0; named = all.1.0; places = λ k least most. all.1.1 k (omega (arith, most)) least })
      (λ orders. (orders.as_many, (orders.named, λ k below least. orders.places k least (omega (arith, below)))))

  known_same_site : (order : SiteOrder) (property : Property) → Known (OrdersSame order property)
  known_same_site order (kinds.Order later) = known_integers later.atom order.atom
  known_same_site order other = inr (λ never. never)

  known_ordered : (behind : List Property) (property : Property) → Known (IsOrdered table behind property)
  known_ordered behind (kinds.Order order) =
      known_as
      (known_both (known_within (pos 1) (pos (length table.atoms)) order.atom)
      (known_both (known_true (is_site_at table (natural order.atom)))
      (known_both (known_all (λ (later : Property). OrdersSame order later → ⊥)
      (λ later. known_not (known_same_site order later)) behind)
      (known_orders order.entries (drawn_neighbours table (natural order.atom))))))
      (λ all. record { atom = all.0; site = all.1.0; last = all.1.1.0; orders = all.1.1.1 }) (λ is. (is.atom, (is.site, (is.last, is.orders))))
  known_ordered behind other = inl tt

  -- ---- points

  known_bears : (x : ℕ) → Known (BearsSome table x)
  known_bears x = known_as (known_either (known_true (bears_point table 1 x)) (known_true (bears_point table 2 x))) to back
    where
      to : IsTrue (bears_point table 1 x) ⊎ IsTrue (bears_point table 2 x) → BearsSome table x
      to (inl first) = (1, omega arith, omega arith, first)
      to (inr second) = (2, omega arith, omega arith, second)

      back : BearsSome table x → IsTrue (bears_point table 1 x) ⊎ IsTrue (bears_point table 2 x)
      back (p, least, most, bears) =
          ⊎_elim (λ one. inl (subst (λ (n : ℕ). IsTrue (bears_point table n x)) one bears))
          (λ other. inr (let two : p ≡ 2 = omega (arith, least, most, other)
          in subst (λ (n : ℕ). IsTrue (bears_point table n x)) two bears)) (cases_eq p 1)

  -- no lower atom bears the point
  Alone : ℕ → ℕ → Type 0
  Alone p x = (y : ℕ) → y < x → 1 ≤ y → IsTrue (bears_point table p x) → IsTrue (bears_point table p y) → ⊥

  known_alone : (p x : ℕ) → Known (Alone p x)
  unfolding Alone
  known_alone p x =
      known_below (λ y. 1 ≤ y → IsTrue (bears_point table p x) → IsTrue (bears_point table p y) → ⊥)
      (λ y. known_if (known_most 1 y) (known_if (known_true (bears_point table p x)) (known_not (known_true (bears_point table p y))))) x

  known_false : (b : Bool) → Known (b ≡ false)
  known_false true = inr (λ same. absurd cc)
  known_false false = inl refl

  -- some atom bears point 1
  known_first : Known (SomeBelow (λ y. (1 ≤ y) × IsTrue (bears_point table 1 y)) (length table.atoms + 1))
  known_first = known_some_below (λ y. (1 ≤ y) × IsTrue (bears_point table 1 y)) (λ y. known_both (known_most 1 y) (known_true (bears_point table 1 y))) (length table.atoms + 1)

  known_pointed : (is_root : Bool) (x : ℕ) → Known (IsPointed is_root table x)
  unfolding Alone
  known_pointed is_root x =
      known_as
      (known_both (known_if (known_bears x) (known_both (known_false is_root) (known_both (known_not (known_true (is_site_at table x))) (known_some_items (links_at table x)))))
      (known_both (known_alone 1 x) (known_both (known_alone 2 x) (known_if (known_true (bears_point table 2 x)) known_first))))
      (λ all. record {
        member = λ bears. (all.0 bears).0;
        no_site = λ bears. (all.0 bears).1.0;
        no_link = λ bears. (all.0 bears).1.1;
        alone = λ p y least most from below here there.
            ⊎_elim
            (λ one. all.1.0 y below from (subst (λ (n : ℕ). IsTrue (bears_point table n x)) one here) (subst (λ (n : ℕ). IsTrue (bears_point table n y)) one there))
            (λ other.
            let two : p ≡ 2 = omega (arith, least, most, other) in
            all.1.1.0 y below from (subst (λ (n : ℕ). IsTrue (bears_point table n x)) two here) (subst (λ (n : ℕ). IsTrue (bears_point table n y)) two there))
            (cases_eq p 1);
        first = λ bears. (let some = all.1.1.1 bears in (some.0, some.2.0, omega (arith, some.1), some.2.1));
      })
      (λ is. (
        λ bears. (is.member bears, (is.no_site bears, is.no_link bears)),
        (
          λ y below from here there. is.alone 1 y (omega arith) (omega arith) from below here there,
          (λ y below from here there. is.alone 2 y (omega arith) (omega arith) from below here there, λ bears. (let some = is.first bears in (some.0, omega (arith, some.2), (some.1, some.3)))),
        ),
      ))

  -- ---- links

  known_alike : (x from to : ℕ) → Known (LeadAlike table x from to)
  known_alike x from to =
      known_as
      (known_some (λ (one : QueryBond). IsTrue (joins x from one)
      × SomeOf (λ (other : QueryBond). IsTrue (joins x to other)
      × ((one.kind ≡ other.kind) × (one.topology ≡ other.topology))) (query_bonds table.bonds))
      (λ one. known_both (known_true (joins x from one))
      (known_some (λ (other : QueryBond). IsTrue (joins x to other) × ((one.kind ≡ other.kind) × (one.topology ≡ other.topology)))
      (λ other. known_both (known_true (joins x to other)) (known_both (known_equal one.kind other.kind) (known_equal one.topology other.topology))) (query_bonds table.bonds)))
      (query_bonds table.bonds))
      (λ some.
      let second = some.2.1 in
      record {
        one = some.0;
        one_at = some.1;
        one_joins = some.2.0;
        other = second.0;
        other_at = second.1;
        other_joins = second.2.0;
        kind = second.2.1.0;
        topology = second.2.1.1;
      })
      (λ lead. (lead.one, lead.one_at, (lead.one_joins, (lead.other, lead.other_at, (lead.other_joins, (lead.kind, lead.topology))))))

  known_plain : (x y : ℕ) → Known (IsPlainBut table x y)
  known_plain x y =
      known_as (known_both (known_not (known_true (is_site_at table y))) (known_both (known_if (known_not (known_equal y x)) (known_some_items (links_at table y))) (known_not (known_bears y))))
      (λ all. record { no_site = all.0; no_link = all.1.0; no_point = all.1.1 }) (λ is. (is.no_site, (is.no_link, is.no_point)))

  known_block : (x : ℕ) (link : LinkEntry) (y : ℕ) → Known (IsInBlock table x link y)
  known_block x link y = known_true _

  known_link : (x : ℕ) (link : LinkEntry) → Known (CanBeLink table x link)
  known_link x link =
      known_as
      (known_both (known_not (known_true (is_site_at table x)))
      (known_both (known_within (pos 2) link.most link.most)
      (known_both (known_within (pos 1) (pos (length table.atoms)) link.from)
      (known_both (known_within (pos 1) (pos (length table.atoms)) link.to)
      (known_both (known_not (known_integers link.from link.to))
      (known_both (known_alike x (natural link.from) (natural link.to))
      (known_both (known_not (known_block x link (natural link.from)))
      (known_both (known_not (known_block x link (natural link.to)))
      (known_below (λ y. 1 ≤ y → IsInBlock table x link y → IsPlainBut table x y) (λ y. known_if (known_most 1 y) (known_if (known_block x link y) (known_plain x y))) (length table.atoms + 1))))))))))
      (λ (no_site, (twice, (from, (to, (differ, (alike, (not_from, (not_to, plain)))))))). record {
        no_site = no_site;
        twice = twice.least;
        from = from;
        to = to;
        differ = differ;
        alike = alike;
        not_from = not_from;
        not_to = not_to;
        plain = λ y least most. plain y (omega (arith, most)) least;
      })
      (λ is. (
        is.no_site,
        (
          record { least = is.twice; most = ≤ℤ_refl link.most },
          (is.from, (is.to, (is.differ, (is.alike, (is.not_from, (is.not_to, λ y below least. is.plain y least (omega (arith, below)))))))),
        ),
      ))

  known_links : (x : ℕ) (links : List LinkEntry) → Known (AreRightLinks table x links)
  known_links x [] = inl tt
  known_links x (link ∷ []) = known_link x link
  known_links x (link ∷ second ∷ others) = inr (λ never. never)

-- ---- logic

known_same_group : (logic : LogicLine) (property : Property) → Known (SpeaksOfSame logic property)
known_same_group logic (kinds.Logic later) = known_integers later.group logic.group
known_same_group logic other = inr (λ never. never)

known_range : (text : List ℕ) → Known ((range : List Interval) × IsRangeText text range)
known_range text = by_reading (range_of text) refl
  where
    by_reading : (found : Option (List Interval)) → range_of text ≡ found → Known ((range : List Interval) × IsRangeText text range)
    by_reading None is = inr (λ some. let read = (range_is_read text some.0).1 some.1 in absurd (let same : None ≡ Some some.0 = sym is ∙ read in cc))
    by_reading (Some range) is = inl (range, (range_is_read text range).0 is)

known_logical : (is_root : Bool) (behind : List Property) (property : Property) → Known (IsLogical is_root behind property)
known_logical is_root behind (kinds.Logic logic) =
    known_as
    (known_both (known_true is_root)
    (known_both (known_all (λ (later : Property). SpeaksOfSame logic later → ⊥) (λ later. known_not (known_same_group logic later)) behind)
    (known_both (known_within (pos 1) (pos 32) logic.group)
    (known_both (known_within (pos 0) (pos 32) logic.then_group) (known_both (known_within (pos 0) (pos 1) logic.rest) (known_range logic.range))))))
    (λ (root, (last, (group, (then_group, (rest, range))))). record { root = root; last = last; group = group; then_group = then_group; rest = rest; range = range })
    (λ is. (is.root, (is.last, (is.group, (is.then_group, (is.rest, is.range))))))
known_logical is_root behind other = inl tt

-- ---- all checks

module _ (groups : List RawGroup) (is_root : Bool) (table : RawTable) where
  abbrev atoms : ℕ
  atoms = length table.atoms

  known_demand : (check : QueryCheck) (item : ℕ) → Known (QueryDemands groups is_root table check item)
  known_demand query_atoms item = known_item IsQueryAtom known_atom table.atoms item
  known_demand bonds_checked item = known_bond atoms table.bonds item
  known_demand query_properties item = known_item (IsQueryProperty atoms) (known_property atoms) table.props item
  known_demand element_lists item =
      known_both (known_if (known_equal item 0) (known_all (λ list. IsAtom atoms list.atom)
      (λ list. known_within (pos 1) (pos atoms) list.atom) table.lists))
      (known_item (IsListed (lists_at table item)) (known_listed (lists_at table item)) table.atoms item)
  known_demand labelled_sites item = known_item (IsLabelled groups (labels_at table item)) (known_labelled groups (labels_at table item)) table.atoms item
  known_demand site_places item =
      known_item (λ (atom : RawAtom). IsTrue (is_site atom) → ArePlaced table (drawn_neighbours table item))
      (λ atom. known_if (known_true (is_site atom)) (known_placed table (drawn_neighbours table item))) table.atoms
      item
  known_demand site_orders item = known_item (IsOrdered table (drop item table.props)) (known_ordered table (drop item table.props)) table.props item
  known_demand attachment_points item = known_item (λ (atom : RawAtom). IsPointed is_root table item) (λ atom. known_pointed table is_root item) table.atoms item
  known_demand link_atoms item = known_item (λ (atom : RawAtom). AreRightLinks table item (links_at table item)) (λ atom. known_links table item (links_at table item)) table.atoms item
  known_demand group_logic item = known_item (IsLogical is_root (drop item table.props)) (known_logical is_root (drop item table.props)) table.props item

  -- the numbers of a check's items
  last_of : QueryCheck → ℕ
  last_of bonds_checked = length table.bonds + 1
  last_of query_properties = length table.props + 1
  last_of site_orders = length table.props + 1
  last_of group_logic = length table.props + 1
  last_of other = atoms + 1

  -- past the last item none fails
  past_last : (check : QueryCheck) → ((j : ℕ) → j < last_of check → QueryDemands groups is_root table check j) → (k : ℕ) → last_of check ≤ k → QueryDemands groups is_root table check k
  unfolding last_of
  past_last query_atoms before k past = of_item-past IsQueryAtom table.atoms k (omega (arith, past))
  past_last bonds_checked before k past = bonds_past atoms table.bonds before k past
  past_last query_properties before k past = of_item-past (IsQueryProperty atoms) table.props k (omega (arith, past))
  past_last element_lists before k past = (λ none. absurd (omega (arith, none, past)), of_item-past (IsListed (lists_at table k)) table.atoms k (omega (arith, past)))
  past_last labelled_sites before k past = of_item-past (IsLabelled groups (labels_at table k)) table.atoms k (omega (arith, past))
  past_last site_places before k past = of_item-past (λ (atom : RawAtom). IsTrue (is_site atom) → ArePlaced table (drawn_neighbours table k)) table.atoms k (omega (arith, past))
  past_last site_orders before k past = of_item-past (IsOrdered table (drop k table.props)) table.props k (omega (arith, past))
  past_last attachment_points before k past = of_item-past (λ (atom : RawAtom). IsPointed is_root table k) table.atoms k (omega (arith, past))
  past_last link_atoms before k past = of_item-past (λ (atom : RawAtom). AreRightLinks table k (links_at table k)) table.atoms k (omega (arith, past))
  past_last group_logic before k past = of_item-past (IsLogical is_root (drop k table.props)) table.props k (omega (arith, past))

  -- a first fault was found, or the checks of lower numbers pass
  SoFar : ℕ → Type 0
  SoFar n = PassesBelow groups is_root table n ⊎ ((fault : Fault) × IsFirstFault groups is_root table fault)

  one_more : (check : QueryCheck) → SoFar (query_check_number check) → SoFar (query_check_number check + 1)
  unfolding SoFar
  one_more check (inr found) = inr found
  one_more check (inl before) = by_items (least_failing (QueryDemands groups is_root table check) (known_demand check) (last_of check) (past_last check))
    where
      by_items : ((k : ℕ) → QueryDemands groups is_root table check k) ⊎ ((k : ℕ) × IsLeastFailing (QueryDemands groups is_root table check) k) → SoFar (query_check_number check + 1)
      by_items (inl passes) = inl (below_more groups is_root table check passes before)
      by_items (inr (item, least)) = inr (record { check = query_check_number check; item = item }, record { check = check; numbered = refl; before = before; least = least })

  pub first_in_table : PassesAll groups is_root table ⊎ ((fault : Fault) × IsFirstFault groups is_root table fault)
  unfolding SoFar
  first_in_table =
      ⊎_elim (λ all. inl (below_all groups is_root table all)) (λ found. inr found)
      (one_more group_logic (one_more link_atoms (one_more attachment_points (one_more site_orders (one_more site_places
      (one_more labelled_sites (one_more element_lists (one_more query_properties (one_more bonds_checked (one_more query_atoms (inl (below_none groups is_root table))))))))))))
