-- The table of a structure passes each check of a query.
--     entries_right     what is asked of its property lines
--     no_site           none of its atoms is a site
--     all_pass          every check passes
use Rattle.std.proofs.Common.{◌≡◌, ◌≢◌, ◌≤◌, ◌+◌, ◌-◌, ℕ, suc, Bool, true, false, eqb, ne_eqb, List, [], ◌∷◌, Option, Some, None, length, map, drop, refl, sym, ap, ◌∙◌, subst, arith, All, inl, inr}
use Rattle.std.specs.Prelude.{ℤ, pos, negsuc, ◌⊎◌, ◌↔◌, codes, bytes_eq, slice_get, if◌then◌else◌}
use Rattle.std.proofs.lemmas.Int.{ints}
use Rattle.std.proofs.lemmas.List.{length-map}
use Rattle.std.proofs.lemmas.List.Elements.{All-cons, All-map, All-nil, All-weaker}
use Rattle.mk_props.specs.declared.property.LogicLine.{LogicLine}
use Rattle.mk_props.specs.declared.property.Pair.{Pair}
use Rattle.mk_props.specs.declared.property.Property.{Property}
use Rattle.mk_model.specs.declared.atom_test.AtomTest.{AtomTest}
use Rattle.mk_model.specs.declared.atom_test.Kind.{Kind}
use Rattle.mk_model.specs.declared.atom_test.Kind.TheVariants.{Element, OneOf, NoneOf, NotHydrogen, Hetero, Anything}
use Rattle.mk_model.specs.declared.graph.GraphAtom.{GraphAtom}
use Rattle.mk_model.specs.Graphs.{GraphView, IsGraph}
use Rattle.mk_model.specs.Molecules.{IsElement}
use Rattle.mk_model.specs.Tests.{IsKindInRange, IsListOfElements, IsTestInRange}
use Rattle.mk_model.proofs.ForCallers.{all_at, pairs_none}
use Rattle.mk_tables.specs.declared.raw.RawAtom.{RawAtom}
use Rattle.mk_tables.specs.declared.raw.RawTable.{RawTable}
use Rattle.mk_demands.specs.Charges.{last_or, values_for}
use Rattle.mk_demands.specs.Numbers.{IsAtom, IsWithin}
use Rattle.mk_query.specs.Checks.{IsElementName, IsQueryAtom, IsQueryBond, IsQueryProperty, IsQueryWord, IsRingBondCount}
use Rattle.mk_query.specs.Compiled.{logic_of, logic_for}
use Rattle.mk_query.specs.Drawn.{ElementList, bears_point, gives_point, is_site, label_pairs, labels_at, links_at, links_for, links_of, lists_at, point_pairs, value_at}
use Rattle.mk_query.specs.FirstFault.{PassesAll, attachment_points, element_lists, group_logic, labelled_sites, link_atoms, query_atoms, query_bonds, query_properties, site_orders, site_places}
use Rattle.mk_query.specs.LinkChecks.{AreRightLinks, BearsSome, IsLogical, IsPointed}
use Rattle.mk_query.specs.SiteChecks.{HasKnownMembers, HasMember, IsLabelled, IsListed, IsOrdered}
use Rattle.mk_enum.specs.StructureTables.{atom_drawn, bond_drawn, element_symbol, entries_from, kind_symbol, unsaturation}
use Rattle.mk_enum.specs.Writable.{IsWritable}
use Rattle.mk_enum.proofs.EachEntryLemmas.{entries_each, one_entry, OfEach}
use Rattle.mk_enum.proofs.OwnBondLemmas.{bonds_right, mapped_get}
use Rattle.mk_enum.proofs.OwnListLemmas.{kind_lists, list_drawn, lists_there}
use Rattle.mk_enum.proofs.SpeltLemmas.{table_drawn}
use Rattle.mk_enum.proofs.SymbolLemmas.{is_plain, names_itself}
use Rattle.mk_enum.proofs.ValueLemmas.{no_pairs}

-- ---- property lines

-- what the checks ask of a line, and what it isn't
pub record IsRight (atoms : ℕ) (property : Property) : Type 0 where
  pub right : IsQueryProperty atoms property
  pub order : (table : RawTable) (behind : List Property) → IsOrdered table behind property
  pub logic : (is_root : Bool) (behind : List Property) → IsLogical is_root behind property
  pub no_logic : (g : ℕ) (later : Option LogicLine) → logic_of g property later ≡ later
  pub no_links : links_of property ≡ []
  pub no_labels : label_pairs property ≡ []
  pub no_points : point_pairs property ≡ []

one_of : (atoms x : ℕ) → 1 ≤ x → x ≤ atoms → IsAtom atoms (pos x)
one_of atoms x least most = record { least = omega (arith, ints, least); most = omega (arith, ints, most) }

unsaturation_in : (b : Bool) → IsWithin (pos 0) (pos 1) (if b then pos 1 else pos 0)
unsaturation_in true = record { least = omega (arith, ints); most = omega (arith, ints) }
unsaturation_in false = record { least = omega (arith, ints); most = omega (arith, ints) }

-- one entry for an atom of the table
named : (atoms x : ℕ) (v : ℤ) → IsAtom atoms (pos x) → All (λ pair. IsAtom atoms pair.atom) (one_entry x v)
named atoms x v is = All-cons (λ (pair : Pair). IsAtom atoms pair.atom) (record { atom = pos x; value = v }) [] is (All-nil (λ (pair : Pair). IsAtom atoms pair.atom))

valued : (P : ℤ → Type 0) (x : ℕ) (v : ℤ) → P v → All (λ pair. P pair.value) (one_entry x v)
valued P x v is = All-cons (λ (pair : Pair). P pair.value) (record { atom = pos x; value = v }) [] is (All-nil (λ (pair : Pair). P pair.value))

each_right : (atoms x : ℕ) (test : AtomTest) → 1 ≤ x → x ≤ atoms → IsTestInRange test → OfEach (IsRight atoms) x test
each_right atoms x test least most is =
    let at : IsAtom atoms (pos x) = one_of atoms x least most in
    record {
      charge = record {
        right = record { named = named atoms x test.charge at; values = valued (IsWithin (negsuc 14) (pos 15)) x test.charge (record { least = is.charge.0; most = is.charge.1 }) };
        order = λ table behind. tt;
        logic = λ is_root behind. tt;
        no_logic = λ g later. refl;
        no_links = refl;
        no_labels = refl;
        no_points = refl;
      };
      radical = record {
        right = record {
          named = named atoms x (pos test.radical) at;
          values = valued (IsWithin (pos 0) (pos 3)) x (pos test.radical) (record { least = omega (arith, ints); most = omega (arith, ints, is.radical) });
        };
        order = λ table behind. tt;
        logic = λ is_root behind. tt;
        no_logic = λ g later. refl;
        no_links = refl;
        no_labels = refl;
        no_points = refl;
      };
      ring_bonds = record {
        right = record {
          named = named atoms x test.ring_bonds at;
          values = valued IsRingBondCount x test.ring_bonds (record { within = record { least = is.ring_bonds.0; most = is.ring_bonds.1 }; not_one = is.no_single_ring_bond });
        };
        order = λ table behind. tt;
        logic = λ is_root behind. tt;
        no_logic = λ g later. refl;
        no_links = refl;
        no_labels = refl;
        no_points = refl;
      };
      substitution = record {
        right = record {
          named = named atoms x test.substitution at;
          values = valued (IsWithin (negsuc 1) (pos 6)) x test.substitution (record { least = is.substitution.0; most = is.substitution.1 });
        };
        order = λ table behind. tt;
        logic = λ is_root behind. tt;
        no_logic = λ g later. refl;
        no_links = refl;
        no_labels = refl;
        no_points = refl;
      };
      unsaturated = record {
        right = record { named = named atoms x (unsaturation test) at; values = valued (IsWithin (pos 0) (pos 1)) x (unsaturation test) (unsaturation_in test.unsaturated) };
        order = λ table behind. tt;
        logic = λ is_root behind. tt;
        no_logic = λ g later. refl;
        no_links = refl;
        no_labels = refl;
        no_points = refl;
      };
      list = λ not elements are. record {
        right = record { named = at; values = tt };
        order = λ table behind. tt;
        logic = λ is_root behind. tt;
        no_logic = λ g later. refl;
        no_links = refl;
        no_labels = refl;
        no_points = refl;
      };
    }

-- each line of a table
pub entries_right : (graph : GraphView) → IsGraph graph → All (IsRight (length graph.atoms)) (entries_from 1 graph.atoms)
entries_right graph is =
    entries_each (IsRight (length graph.atoms)) (length graph.atoms) 1 graph.atoms (omega arith) is.sketch.tests
    (λ x test least most in_range. each_right (length graph.atoms) x test least most in_range)

-- ---- what isn't there

no_links_for : (atoms x : ℕ) (props : List Property) → All (IsRight atoms) props → links_for x props ≡ []
no_links_for atoms x [] right = refl
no_links_for atoms x (p ∷ props) right = rw ((right 0 p (omega arith)).no_links) (no_links_for atoms x props (λ k d below. right (suc k) d (omega (arith, below))))

-- no line is one of logic
pub no_logic_for : (atoms g : ℕ) (props : List Property) → All (IsRight atoms) props → logic_for g props ≡ None
no_logic_for atoms g [] right = refl
no_logic_for atoms g (p ∷ props) right =
    (right 0 p (omega arith)).no_logic g (logic_for g props) ∙ no_logic_for atoms g props (λ k d below. right (suc k) d (omega (arith, below)))

module _ (graph : GraphView) (is : IsGraph graph) where
  abbrev table : RawTable
  table = table_drawn graph

  -- no link stands at an atom
  pub no_link_at : (x : ℕ) → links_at (table_drawn graph) x ≡ []
  no_link_at x = no_links_for (length graph.atoms) x (entries_from 1 graph.atoms) (entries_right graph is)

  -- and no label
  pub no_label_at : (x : ℕ) → labels_at (table_drawn graph) x ≡ []
  no_label_at x =
      ap (values_for x) (no_pairs label_pairs (entries_from 1 graph.atoms)
      (All-weaker (IsRight (length graph.atoms)) (λ p. label_pairs p ≡ []) (λ p right. right.no_labels) (entries_from 1 graph.atoms) (entries_right graph is)))

  no_point_value : (x : ℕ) → value_at point_pairs (table_drawn graph) x ≡ pos 0
  no_point_value x =
      ap (λ (ps : List Pair). last_or (pos 0) (values_for x ps)) (no_pairs point_pairs (entries_from 1 graph.atoms)
      (All-weaker (IsRight (length graph.atoms)) (λ p. point_pairs p ≡ []) (λ p right. right.no_points) (entries_from 1 graph.atoms) (entries_right graph is)))

  no_point_of : (p : ℕ) → 1 ≤ p → gives_point p (pos 0) ≡ false
  no_point_of p least = (let other : eqb 0 p ≡ false = ne_eqb 0 p (λ e. omega (arith, e, least)) in rw other refl)

  -- no attachment point stands at an atom
  pub no_point_at : (p x : ℕ) → 1 ≤ p → bears_point (table_drawn graph) p x ≡ false
  no_point_at p x least = ap (gives_point p) (no_point_value x) ∙ no_point_of p least

  -- ---- symbols

  kind_word : (kind : Kind) → IsKindInRange kind → IsElementName (kind_symbol kind) ⊎ IsQueryWord (kind_symbol kind)
  kind_word (Element z) in_range = inl (record { element = z; names = names_itself z in_range })
  kind_word (OneOf elements) in_range = inr (inl refl)
  kind_word (NoneOf elements) in_range = inr (inl refl)
  kind_word NotHydrogen in_range = inr (inr (inl refl))
  kind_word Hetero in_range = inr (inr (inr (inl refl)))
  kind_word Anything in_range = inr (inr (inr (inr (inl refl))))

  kind_no_site : (kind : Kind) → IsKindInRange kind → bytes_eq (kind_symbol kind) (codes "R#") ≡ false
  kind_no_site (Element z) in_range = (is_plain z in_range).no_site
  kind_no_site (OneOf elements) in_range = refl
  kind_no_site (NoneOf elements) in_range = refl
  kind_no_site NotHydrogen in_range = refl
  kind_no_site Hetero in_range = refl
  kind_no_site Anything in_range = refl

  -- no atom is a site
  pub no_site : (atom : GraphAtom) → IsTestInRange atom.test → is_site (atom_drawn atom) ≡ false
  no_site atom in_range = kind_no_site atom.test.kind in_range.kind

  atom_right : (atom : GraphAtom) → IsTestInRange atom.test → IsQueryAtom (atom_drawn atom)
  atom_right atom in_range = record {
    symbol = kind_word atom.test.kind in_range.kind;
    charge = record { least = omega (arith, ints); most = omega (arith, ints) };
    hydrogens = record { least = omega (arith, ints); most = omega (arith, ints, in_range.hydrogens) };
  }

  -- ---- lists

  names_known : (not : Bool) (x : ℕ) (elements : List ℕ) → IsListOfElements elements → HasKnownMembers (list_drawn x not elements)
  names_known not x elements are =
      All-map IsElementName element_symbol elements
      (All-weaker IsElement (λ z. IsElementName (element_symbol z)) (λ z in_range. record { element = z; names = names_itself z in_range }) elements are.elements)

  lists_known : (x : ℕ) (kind : Kind) → IsKindInRange kind → All HasKnownMembers (kind_lists x kind)
  lists_known x (Element z) in_range = All-nil HasKnownMembers
  lists_known x (OneOf elements) in_range = All-cons HasKnownMembers (list_drawn x false elements) [] (names_known false x elements in_range) (All-nil HasKnownMembers)
  lists_known x (NoneOf elements) in_range = All-cons HasKnownMembers (list_drawn x true elements) [] (names_known true x elements in_range) (All-nil HasKnownMembers)
  lists_known x NotHydrogen in_range = All-nil HasKnownMembers
  lists_known x Hetero in_range = All-nil HasKnownMembers
  lists_known x Anything in_range = All-nil HasKnownMembers

  one_letter : (a b : ℕ) → a ∷ [] ≡ b ∷ [] → a ≡ b
  one_letter a b e = cc

  list_word : (x : ℕ) (kind : Kind) → IsKindInRange kind → (kind_symbol kind ≡ codes "L") ↔ (kind_lists x kind ≢ [])
  list_word x (Element z) in_range = (λ e. absurd ((is_plain z in_range).no_list e), λ some. absurd (some refl))
  list_word x (OneOf elements) in_range = (λ e none. cc, λ some. refl)
  list_word x (NoneOf elements) in_range = (λ e none. cc, λ some. refl)
  list_word x NotHydrogen in_range = (λ e. absurd (omega (arith, one_letter 65 76 e)), λ some. absurd (some refl))
  list_word x Hetero in_range = (λ e. absurd (omega (arith, one_letter 81 76 e)), λ some. absurd (some refl))
  list_word x Anything in_range = (λ e. absurd (omega (arith, one_letter 42 76 e)), λ some. absurd (some refl))

  is_listed : (i : ℕ) (atom : GraphAtom) → slice_get graph.atoms i ≡ Some atom → IsListed (lists_at (table_drawn graph) (i + 1)) (atom_drawn atom)
  is_listed i atom at =
      let in_range = all_at (λ (a : GraphAtom). IsTestInRange a.test) graph.atoms i atom is.sketch.tests at in
      subst (λ (lists : List ElementList). IsListed lists (atom_drawn atom)) (sym (lists_there graph i atom at))
      (record { members = lists_known (i + 1) atom.test.kind in_range.kind; word = list_word (i + 1) atom.test.kind in_range.kind })

  -- ---- check by check

  -- what holds of each atom's line
  of_atoms : (P : ℕ → RawAtom → Type 0) → ((i : ℕ) (atom : GraphAtom) → slice_get graph.atoms i ≡ Some atom → IsTestInRange atom.test → P (i + 1) (atom_drawn atom))
      → (item : ℕ) (line : RawAtom) → 1 ≤ item → slice_get (map atom_drawn graph.atoms) (item - 1) ≡ Some line → P item line
  of_atoms P each item line least at =
      let m = mapped_get atom_drawn graph.atoms (item - 1) line at in
      let place : item - 1 + 1 ≡ item = omega (arith, least) in
      let here : P (item - 1 + 1) (atom_drawn m.0) = each (item - 1) m.0 m.1 (all_at (λ (a : GraphAtom). IsTestInRange a.test) graph.atoms (item - 1) m.0 is.sketch.tests m.1) in
      subst (P item) m.2 (subst (λ (n : ℕ). P n (atom_drawn m.0)) place here)

  -- what holds of each property line
  of_entries : (P : Property → Type 0) → ((p : Property) → IsRight (length graph.atoms) p → P p) → (item : ℕ) (p : Property) → slice_get (entries_from 1 graph.atoms) (item - 1) ≡ Some p → P p
  of_entries P each item p at = each p (all_at (IsRight (length graph.atoms)) (entries_from 1 graph.atoms) (item - 1) p (entries_right graph is) at)

  labelled : (x : ℕ) (line : RawAtom) → is_site line ≡ false → IsLabelled [] (labels_at (table_drawn graph) x) line
  labelled x line none =
      subst (λ (labels : List ℤ). IsLabelled [] labels line) (sym (no_label_at x)) (record {
        word = (λ yes. absurd (cc (yes, none)), λ some. absurd (some refl));
        once = pairs_none (λ label later. label ≢ later);
        members = All-nil (HasMember []);
      })

  bears_none : (x : ℕ) → BearsSome (table_drawn graph) x → ⊥
  bears_none x (p, least, most, bears) = cc (bears, no_point_at p x least)

  pointed : (x : ℕ) → IsPointed true (table_drawn graph) x
  pointed x = record {
    member = λ bears. absurd (bears_none x bears);
    no_site = λ bears. absurd (bears_none x bears);
    no_link = λ bears. absurd (bears_none x bears);
    alone = λ p y least most low under bears. absurd (cc (bears, no_point_at p x least));
    first = λ bears. absurd (cc (bears, no_point_at 2 x (omega arith)));
  }

  no_links_there : (x : ℕ) → AreRightLinks (table_drawn graph) x (links_at (table_drawn graph) x)
  no_links_there x = subst (AreRightLinks (table_drawn graph) x) (sym (no_link_at x)) tt

  -- every check passes
  pub all_pass : IsWritable graph → PassesAll [] true (table_drawn graph)
  all_pass writable query_atoms = λ item line least at. of_atoms (λ n l. IsQueryAtom l) (λ i atom there in_range. atom_right atom in_range) item line least at
  all_pass writable query_bonds = λ item.
      subst (λ (n : ℕ). IsQueryBond n (map bond_drawn graph.bonds) item) (sym (length-map graph.atoms atom_drawn)) (bonds_right graph is writable item)
  all_pass writable query_properties = λ item p least at.
      subst (λ (n : ℕ). IsQueryProperty n p) (sym (length-map graph.atoms atom_drawn)) (of_entries (IsQueryProperty (length graph.atoms)) (λ q right. right.right) item p at)
  all_pass writable element_lists = λ item. (
    λ none. All-nil _,
    λ line least at. of_atoms (λ n l. IsListed (lists_at (table_drawn graph) n) l) (λ i atom there in_range. is_listed i atom there) item line least at,
  )
  all_pass writable labelled_sites = λ item line least at.
      of_atoms (λ n l. IsLabelled [] (labels_at (table_drawn graph) n) l) (λ i atom there in_range. labelled (i + 1) (atom_drawn atom) (no_site atom in_range)) item line least at
  all_pass writable site_places = λ item line least at yes.
      absurd (cc (yes, of_atoms (λ n l. is_site l ≡ false) (λ i atom there in_range. no_site atom in_range) item line least at))
  all_pass writable site_orders = λ item p least at.
      of_entries (IsOrdered (table_drawn graph) (drop item (entries_from 1 graph.atoms))) (λ q right. right.order (table_drawn graph) (drop item (entries_from 1 graph.atoms))) item p at
  all_pass writable attachment_points = λ item line least at. pointed item
  all_pass writable link_atoms = λ item line least at. no_links_there item
  all_pass writable group_logic = λ item p least at.
      of_entries (IsLogical true (drop item (entries_from 1 graph.atoms))) (λ q right. right.logic true (drop item (entries_from 1 graph.atoms))) item p at
