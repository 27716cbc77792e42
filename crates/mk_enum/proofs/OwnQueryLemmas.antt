-- The query of the table of a structure, and its expansion.
--     read_back     the law
use Rattle.std.proofs.Common.{◌≡◌, ◌<◌, ◌≤◌, ◌+◌, ℕ, zero, suc, Bool, true, false, cond, List, [], ◌∷◌, ◌++◌, Option, Some, None, length, map, replicate, refl, sym, ap, ◌∙◌, subst, arith, All}
use Rattle.std.specs.Prelude.{ℤ, pos, Contains, slice_get, sum_by}
use Rattle.std.specs.List.{filter, range_with_len}
use Rattle.std.specs.Ordering.{int_eq}
use Rattle.std.proofs.lemmas.List.{length-map, length-replicate}
use Rattle.std.proofs.lemmas.List.Elements.{All-nil}
use Rattle.std.proofs.lemmas.List.FromFn.{length-range_with_len}
use Rattle.std.proofs.lemmas.List.Sums.{sum_by-cons}
use Rattle.mk_props.specs.declared.property.Pair.{Pair}
use Rattle.mk_props.specs.declared.property.Property.{Property}
use Rattle.mk_props.specs.declared.property.Property.TheVariants as kinds
use Rattle.mk_model.specs.declared.atom_test.AtomTest.{AtomTest}
use Rattle.mk_model.specs.declared.atom_test.Kind.{Kind}
use Rattle.mk_model.specs.declared.atom_test.Kind.TheVariants.{Element, OneOf, NoneOf, NotHydrogen, Hetero, Anything}
use Rattle.mk_model.specs.declared.graph.GraphAtom.{GraphAtom}
use Rattle.mk_model.specs.declared.graph.GraphBond.{GraphBond}
use Rattle.mk_model.specs.declared.group.Group.{Group}
use Rattle.mk_model.specs.declared.template.QueryBond.{QueryBond}
use Rattle.mk_model.specs.declared.template.Slot.{Slot}
use Rattle.mk_model.specs.Codes.Choice.{done}
use Rattle.mk_model.specs.Expansions.{IsExpansion, bond_between, expansion, unmarked}
use Rattle.mk_model.specs.Graphs.{GraphView, IsGraph}
use Rattle.mk_model.specs.Logic.{IsValid}
use Rattle.mk_model.specs.Molecules.{IsElement}
use Rattle.mk_model.specs.Queries.{QueryView, slots_of}
use Rattle.mk_model.specs.QueryFits.{QueryFits}
use Rattle.mk_model.specs.Sizes.{IsSizing, size_by}
use Rattle.mk_model.specs.Templates.{TemplateView}
use Rattle.mk_model.specs.Tests.{IsKindInRange, IsTestInRange}
use Rattle.mk_model.proofs.ForCallers.{all_at}
use Rattle.mk_tables.specs.declared.raw.RawAtom.{RawAtom}
use Rattle.mk_tables.specs.declared.raw.RawTable.{RawTable}
use Rattle.mk_demands.specs.Charges.{charge_at, charge_pairs, charges_of, last_or, lists_values, radical_at, radical_pairs, radicals_of, values_for}
use Rattle.mk_logic.specs.RangeTexts.{above}
use Rattle.mk_logic.specs.RangeTexts.IsRangeText.{blank_text}
use Rattle.mk_rgfile.specs.declared.raw_query.RawQuery.{RawQuery}
use Rattle.mk_pieces.specs.Drawn.{WithoutSlots, as_drawn}
use Rattle.mk_pieces.proofs.JoiningLemmas.{between_less, in_mapped}
use Rattle.mk_query.specs.Compiled.{AreGroupsOf, AreTemplatesOf, AreTestsOf, IsGroupOf, IsKindOf, IsLogicOf, IsQueryOf, IsTemplateOf, IsTestBy, IsTestDrawn, IsTestOf, NameElements, all_atoms, logic_for, of_any, of_any_heavy, of_element, of_hetero, of_list, points_of, query_tables, slots_at}
use Rattle.mk_query.specs.CompileFaults.{FitsTable, IsNoCycle, PassAcross, PassChecks, PassEach}
use Rattle.mk_query.specs.Drawn.{ElementList, bears_point, last_list, list_in_force, pairs_by, ring_bonds_of, substitutions_of, unsaturations_of, value_at}
use Rattle.mk_query.specs.FirstFault.{PassesAll}
use Rattle.mk_query.specs.InRange.{HaveFewProperties, IsGroupInRange, IsQueryInRange}
use Rattle.mk_query.specs.Laws.{NoFaultWhereAllPass, PassedQueriesFit}
use Rattle.mk_enum.specs.ReadingBack.{StandsFor, StructuresAreReadBack, alone}
use Rattle.mk_enum.specs.StructureTables.{atom_drawn, bond_drawn, element_symbol, entries_from, kind_symbol, unsaturation}
use Rattle.mk_enum.specs.Writable.{IsWritable}
use Rattle.mk_enum.proofs.AtomThereLemmas.{some_atom}
use Rattle.mk_enum.proofs.EachEntryLemmas.{few_entries}
use Rattle.mk_enum.proofs.OwnBondLemmas.{bonds_as, mapped_get}
use Rattle.mk_enum.proofs.OwnListLemmas.{kind_lists, list_drawn, lists_there}
use Rattle.mk_enum.proofs.PassLemmas.{all_pass, entries_right, no_label_at, no_link_at, no_logic_for, no_point_at, no_site}
use Rattle.mk_enum.proofs.SpeltLemmas.{entries_spelt, table_drawn, table_is}
use Rattle.mk_enum.proofs.SymbolLemmas.{names_itself}
use Rattle.mk_enum.proofs.ValueLemmas.{charge_read, radical_read, ring_bonds_read, substitution_read, unsaturation_read, value_from}

-- ---- charges and radicals

charge_pairs_are : (props : List Property) → charge_pairs props ≡ pairs_by charges_of props
charge_pairs_are [] = refl
charge_pairs_are (p ∷ props) = ap (λ (ps : List Pair). charges_of p ++ ps) (charge_pairs_are props)

radical_pairs_are : (props : List Property) → radical_pairs props ≡ pairs_by radicals_of props
radical_pairs_are [] = refl
radical_pairs_are (p ∷ props) = ap (λ (ps : List Pair). radicals_of p ++ ps) (radical_pairs_are props)

-- where no line gives charges or radicals there are no such pairs
no_charges : (props : List Property) → lists_values props ≡ false → charge_pairs props ≡ []
no_charges [] none = refl
no_charges (kinds.Charge pairs ∷ props) none = absurd cc
no_charges (kinds.Radical pairs ∷ props) none = absurd cc
no_charges (p ∷ props) none = no_charges props none

no_radicals : (props : List Property) → lists_values props ≡ false → radical_pairs props ≡ []
no_radicals [] none = refl
no_radicals (kinds.Charge pairs ∷ props) none = absurd cc
no_radicals (kinds.Radical pairs ∷ props) none = absurd cc
no_radicals (p ∷ props) none = no_radicals props none

-- the value of the entries, whether there are any or not
listed_or : (b : Bool) (props : List Property) (x : ℕ) (pairs : List Pair) (v : ℤ) → lists_values props ≡ b → (lists_values props ≡ false → pairs ≡ []) → last_or (pos 0) (values_for x pairs) ≡ v
    → v ≡ cond b (last_or (pos 0) (values_for x pairs)) (pos 0)
listed_or true props x pairs v e none is = sym is
listed_or false props x pairs v e none is = sym is ∙ ap (λ (ps : List Pair). last_or (pos 0) (values_for x ps)) (none e)

module _ (graph : GraphView) (is : IsGraph graph) where
  from_one : (i : ℕ) → 1 + i ≡ i + 1
  from_one i = omega arith

  charge_is : (i : ℕ) (atom : GraphAtom) → slice_get graph.atoms i ≡ Some atom → atom.test.charge ≡ charge_at (table_drawn graph) (i + 1) (atom_drawn atom)
  charge_is i atom at =
      let props : List Property = entries_from 1 graph.atoms in
      let value : last_or (pos 0) (values_for (i + 1) (charge_pairs (entries_from 1 graph.atoms))) ≡ atom.test.charge =
      ap (λ (ps : List Pair). last_or (pos 0) (values_for (i + 1) ps)) (charge_pairs_are (entries_from 1 graph.atoms))
      ∙ subst (λ (x : ℕ). last_or (pos 0) (values_for x (pairs_by charges_of (entries_from 1 graph.atoms))) ≡ atom.test.charge) (from_one i)
      (value_from charges_of (λ test. test.charge) charge_read 1 i graph.atoms atom at) in
      listed_or (lists_values (entries_from 1 graph.atoms)) (entries_from 1 graph.atoms) (i + 1) (charge_pairs (entries_from 1 graph.atoms)) atom.test.charge refl
      (no_charges (entries_from 1 graph.atoms)) value

  radical_is : (i : ℕ) (atom : GraphAtom) → slice_get graph.atoms i ≡ Some atom → pos atom.test.radical ≡ radical_at (table_drawn graph) (i + 1) (atom_drawn atom)
  radical_is i atom at =
      let value : last_or (pos 0) (values_for (i + 1) (radical_pairs (entries_from 1 graph.atoms))) ≡ pos atom.test.radical =
      ap (λ (ps : List Pair). last_or (pos 0) (values_for (i + 1) ps)) (radical_pairs_are (entries_from 1 graph.atoms))
      ∙ subst (λ (x : ℕ). last_or (pos 0) (values_for x (pairs_by radicals_of (entries_from 1 graph.atoms))) ≡ pos atom.test.radical) (from_one i)
      (value_from radicals_of (λ test. pos test.radical) radical_read 1 i graph.atoms atom at) in
      listed_or (lists_values (entries_from 1 graph.atoms)) (entries_from 1 graph.atoms) (i + 1) (radical_pairs (entries_from 1 graph.atoms)) (pos atom.test.radical) refl
      (no_radicals (entries_from 1 graph.atoms)) value

  value_is : (select : Property → List Pair) (value : AtomTest → ℤ) → ((x i : ℕ) (atoms : List GraphAtom) (atom : GraphAtom) → slice_get atoms i ≡ Some atom
      → last_or (pos 0) (values_for (x + i) (pairs_by select (entries_from x atoms))) ≡ value atom.test) → (i : ℕ) (atom : GraphAtom) → slice_get graph.atoms i ≡ Some atom
      → value atom.test ≡ value_at select (table_drawn graph) (i + 1)
  value_is select value from i atom at =
      sym (subst (λ (x : ℕ). last_or (pos 0) (values_for x (pairs_by select (entries_from 1 graph.atoms))) ≡ value atom.test) (from_one i) (from 1 i graph.atoms atom at))

  -- ---- kinds

  names_of : (elements : List ℕ) → All IsElement elements → NameElements (map element_symbol elements) elements
  names_of [] are = tt
  names_of (z ∷ elements) are = (names_itself z (are 0 z (omega arith)), names_of elements (λ k d below. are (suc k) d (omega (arith, below))))

  in_force : (i : ℕ) (atom : GraphAtom) → slice_get graph.atoms i ≡ Some atom → list_in_force (table_drawn graph) (i + 1) ≡ last_list None (kind_lists (i + 1) atom.test.kind)
  in_force i atom at = ap (last_list None) (lists_there graph i atom at)

  kind_of : (x : ℕ) (kind : Kind) → IsKindInRange kind → IsKindOf (last_list None (kind_lists x kind)) (kind_symbol kind) kind
  kind_of x (Element z) in_range = of_element z (names_itself z in_range) refl
  kind_of x (OneOf elements) in_range = of_list refl (list_drawn x false elements) refl elements (names_of elements in_range.elements) refl
  kind_of x (NoneOf elements) in_range = of_list refl (list_drawn x true elements) refl elements (names_of elements in_range.elements) refl
  kind_of x NotHydrogen in_range = of_any_heavy refl refl
  kind_of x Hetero in_range = of_hetero refl refl
  kind_of x Anything in_range = of_any refl refl

  -- ---- tests

  unsaturated_is : (b : Bool) → b ≡ int_eq (cond b (pos 1) (pos 0)) (pos 1)
  unsaturated_is true = refl
  unsaturated_is false = refl

  test_drawn : (i : ℕ) (atom : GraphAtom) → slice_get graph.atoms i ≡ Some atom → IsTestInRange atom.test → IsTestDrawn (table_drawn graph) (i + 1) (atom_drawn atom) atom.test
  test_drawn i atom at in_range = record {
    kind = subst (λ (force : Option ElementList). IsKindOf force (kind_symbol atom.test.kind) atom.test.kind) (sym (in_force i atom at)) (kind_of (i + 1) atom.test.kind in_range.kind);
    charge = charge_is i atom at;
    radical = radical_is i atom at;
    hydrogens = refl;
    ring_bonds = value_is ring_bonds_of (λ test. test.ring_bonds) (value_from ring_bonds_of (λ test. test.ring_bonds) ring_bonds_read) i atom at;
    substitution = value_is substitutions_of (λ test. test.substitution) (value_from substitutions_of (λ test. test.substitution) substitution_read) i atom at;
    unsaturated = unsaturated_is atom.test.unsaturated
        ∙ ap (λ (v : ℤ). int_eq v (pos 1)) (value_is unsaturations_of unsaturation (value_from unsaturations_of unsaturation unsaturation_read) i atom at);
  }

  test_of : (i : ℕ) (atom : GraphAtom) → slice_get graph.atoms i ≡ Some atom → IsTestOf (table_drawn graph) (i + 1) (atom_drawn atom) atom.test
  test_of i atom at =
      let in_range = all_at (λ (a : GraphAtom). IsTestInRange a.test) graph.atoms i atom is.sketch.tests at in
      subst (λ (b : Bool). IsTestBy b (table_drawn graph) (i + 1) (atom_drawn atom) atom.test) (sym (no_site graph is atom in_range)) (test_drawn i atom at in_range)

  -- the tests of the atoms
  abbrev tests : List AtomTest
  tests = map (λ (atom : GraphAtom). atom.test) graph.atoms

  tests_of : AreTestsOf (table_drawn graph) (map (λ (atom : GraphAtom). atom.test) graph.atoms)
  tests_of = record {
    size = length-map graph.atoms (λ (atom : GraphAtom). atom.test) ∙ sym (length-map graph.atoms atom_drawn);
    each = λ i line test at there.
        let m = mapped_get atom_drawn graph.atoms i line at in
        let n = mapped_get (λ (atom : GraphAtom). atom.test) graph.atoms i test there in
        let same : m.0 ≡ n.0 = one_there (slice_get graph.atoms i) m.0 n.0 m.1 n.1 in
        subst (λ (l : RawAtom). IsTestOf (table_drawn graph) (i + 1) l test) m.2
        (subst (λ (t : AtomTest). IsTestOf (table_drawn graph) (i + 1) (atom_drawn m.0) t) (ap (λ (a : GraphAtom). a.test) same ∙ n.2) (test_of i m.0 m.1));
  }
    where
      one_there : (o : Option GraphAtom) (a b : GraphAtom) → o ≡ Some a → o ≡ Some b → a ≡ b
      one_there o a b e f = cc

  -- ---- the template

  abbrev own_template : TemplateView
  own_template = record { atoms = map (λ (atom : GraphAtom). atom.test) graph.atoms; bonds = map unmarked graph.bonds; slots = []; points = [] }

  no_slots : (xs : List ℕ) → slots_at (table_drawn graph) xs ≡ []
  no_slots [] = refl
  no_slots (x ∷ xs) = rw (no_link_at graph is x, no_label_at graph is x) (no_slots xs)

  none_pass : (p : ℕ → Bool) (xs : List ℕ) → ((x : ℕ) → p x ≡ false) → filter p xs ≡ []
  none_pass p [] none = refl
  none_pass p (x ∷ xs) none = rw (none x) (none_pass p xs none)

  no_points : points_of (table_drawn graph) ≡ []
  no_points =
      rw (none_pass (bears_point (table_drawn graph) 1) (all_atoms (table_drawn graph)) (λ x. no_point_at graph is 1 x (omega arith)))
      (none_pass (bears_point (table_drawn graph) 2) (all_atoms (table_drawn graph)) (λ x. no_point_at graph is 2 x (omega arith)))

  template_of_table : IsTemplateOf (table_drawn graph) (record { atoms = map (λ (atom : GraphAtom). atom.test) graph.atoms; bonds = map unmarked graph.bonds; slots = []; points = [] })
  template_of_table = record { atoms = tests_of; bonds = sym (bonds_as graph.bonds is.sketch.bond_tests); slots = sym (no_slots (all_atoms (table_drawn graph))); points = sym no_points }

  -- ---- the query

  abbrev plain : Group
  plain = record { members = []; then_group = 0; rest_hydrogen = false; range = above 0 ∷ [] }

  abbrev own_query : QueryView
  own_query = record {
    templates = record { atoms = map (λ (atom : GraphAtom). atom.test) graph.atoms; bonds = map unmarked graph.bonds; slots = []; points = [] } ∷ [];
    groups = replicate 32 (record { members = []; then_group = 0; rest_hydrogen = false; range = above 0 ∷ [] });
  }

  abbrev own_raw : RawQuery
  own_raw = alone (table_drawn graph)

  logic_none : (g : ℕ) → IsLogicOf (logic_for g (entries_from 1 graph.atoms)) plain
  logic_none g = subst (λ (o : Option _). IsLogicOf o plain) (sym (no_logic_for (length graph.atoms) g (entries_from 1 graph.atoms) (entries_right graph is))) (refl, (refl, blank_text refl refl))

  repeated_is : (n i : ℕ) (group : Group) → slice_get (replicate n plain) i ≡ Some group → plain ≡ group
  repeated_is zero i group at = absurd cc
  repeated_is (suc n) zero group at = cc
  repeated_is (suc n) (suc i) group at = repeated_is n i group at

  groups_of : AreGroupsOf own_raw (replicate 32 plain)
  groups_of = record {
    size = length-replicate 32 plain;
    each = λ i group at. subst (IsGroupOf own_raw (i + 1)) (repeated_is 32 i group at) (record { members = refl; logic = logic_none (i + 1) });
  }

  templates_of : AreTemplatesOf (query_tables own_raw) (own_template ∷ [])
  templates_of = record { size = refl; each = λ t table template at there. by_number t table template at there }
    where
      by_number : (t : ℕ) (table : RawTable) (template : TemplateView) → slice_get (query_tables own_raw) t ≡ Some table → slice_get (own_template ∷ []) t ≡ Some template → IsTemplateOf table template
      by_number zero table template at there =
          let one : table_drawn graph ≡ table = cc in
          let two : own_template ≡ template = cc in
          subst (λ (tb : RawTable). IsTemplateOf tb template) one (subst (IsTemplateOf (table_drawn graph)) two template_of_table)
      by_number (suc t) table template at there = absurd cc

  query_of : IsQueryOf own_raw own_query
  query_of = record { templates = templates_of; groups = groups_of }

  -- ---- the checks across tables

  no_slot : (t : ℕ) (slot : Slot) → Contains (slots_of own_query t) slot → ⊥
  no_slot zero slot (k, below, at) = omega (arith, below)
  no_slot (suc t) slot (k, below, at) = omega (arith, below)

  no_cycle : (t : ℕ) → IsNoCycle own_query t
  no_cycle t [] chain = no_slot t chain.slot chain.at
  no_cycle t (v ∷ via) chain = no_slot t chain.0.slot chain.0.at

  fits_each : (t : ℕ) → FitsTable own_query t
  fits_each zero x template slot at held there =
      let one : own_template ≡ template = cc in
      absurd (let k = subst (λ (tm : TemplateView). Contains tm.slots slot) (sym one) held in let below = k.1 in omega (arith, below))
  fits_each (suc t) x template slot at held there = absurd cc

  all_count : (xs : List ℕ) → sum_by (λ x. 1) xs ≡ length xs
  all_count [] = refl
  all_count (x ∷ xs) = (let rest = all_count xs in omega (arith, rest, sum_by-cons (λ (y : ℕ). 1) x xs))

  own_size : length graph.atoms ≡ size_by own_query (λ t. length graph.atoms) own_template
  own_size =
      let atoms = length-map graph.atoms (λ (atom : GraphAtom). atom.test) in
      let numbers = length-range_with_len 1 (length (map (λ (atom : GraphAtom). atom.test) graph.atoms)) in
      let count = all_count (range_with_len 1 (length (map (λ (atom : GraphAtom). atom.test) graph.atoms))) in
      omega (arith, atoms, numbers, count)

  sizing : IsSizing own_query (λ t. length graph.atoms)
  sizing zero template at = (let one : own_template ≡ template = cc in subst (λ (tm : TemplateView). length graph.atoms ≡ size_by own_query (λ t. length graph.atoms) tm) one own_size)
  sizing (suc t) template at = absurd cc

  across : 1 ≤ length graph.atoms → PassAcross own_raw own_query
  across some = record {
    no_cycle = no_cycle;
    fits = fits_each;
    small = record { size = λ t. length graph.atoms; adds_up = sizing; small = is.sketch.few };
    whole = λ item. record {
      root = λ zero_item none. (let size = ap length none in omega (arith, some, size, length-map graph.atoms atom_drawn));
      once = λ other. omega arith;
      few = λ last. omega arith;
    };
  }

  passes : IsWritable graph → 1 ≤ length graph.atoms → PassChecks own_raw own_query
  passes writable some = record { in_tables = in_each; across = across some }
    where
      in_each : PassEach own_raw
      in_each zero table at = (let one : table_drawn graph ≡ table = cc in subst (PassesAll [] true) one (all_pass graph is writable))
      in_each (suc t) table at = absurd cc

  in_range : IsWritable graph → IsQueryInRange own_raw
  in_range writable = record {
    root = record {
      few_atoms = omega (arith, length-map graph.atoms atom_drawn, is.sketch.few);
      few_bonds = omega (arith, length-map graph.bonds bond_drawn, writable.few_bonds);
      numbers = All-nil _;
      symbols = λ k d below. (entries_spelt graph is k d below).some;
    };
    groups = All-nil IsGroupInRange;
  }

  few_properties : HaveFewProperties own_raw
  few_properties = record { root = omega (arith, few_entries 1 graph.atoms, is.sketch.few); members = All-nil _ }

  -- ---- the expansion

  closed_atoms : (atoms : List GraphAtom) → All (λ atom. atom.free ≡ 0) atoms → atoms ≡ map (λ (test : AtomTest). record { test = test; free = 0 }) (map (λ (atom : GraphAtom). atom.test) atoms)
  closed_atoms [] closed = refl
  closed_atoms (atom ∷ atoms) closed =
      ap (λ (n : ℕ). record { test = atom.test; free = n } ∷ atoms) (closed 0 atom (omega arith))
      ∙ ap (λ (more : List GraphAtom). record { test = atom.test; free = 0 } ∷ more) (closed_atoms atoms (λ k d below. closed (suc k) d (omega (arith, below))))

  as_they_are : (bonds : List GraphBond) → All (λ bond. bond.first < bond.second) bonds
      → map (λ (bond : QueryBond). bond_between bond.first bond.second bond.kind bond.topology) (map unmarked bonds) ≡ map unmarked bonds
  as_they_are [] less = refl
  as_they_are (bond ∷ bonds) less =
      ap (λ (b : QueryBond). b ∷ map (λ (c : QueryBond). bond_between c.first c.second c.kind c.topology) (map unmarked bonds))
      (between_less bond.first bond.second bond.kind bond.topology (less 0 bond (omega arith)))
      ∙ ap (λ (bs : List QueryBond). unmarked bond ∷ bs) (as_they_are bonds (λ k d below. less (suc k) d (omega (arith, below))))

  expanded : WithoutSlots → QueryFits own_query → IsWritable graph → IsExpansion own_query [] graph
  expanded law fits writable =
      let drawn : expansion own_query 0 done ≡ as_drawn own_template = law own_query 0 own_template fits refl refl in
      let bonds : (expansion own_query 0 done).bonds ≡ map unmarked graph.bonds = ap (λ f. f.bonds) drawn ∙ as_they_are graph.bonds is.sketch.lower_first in
      record {
        choice = done;
        made = tt;
        spelt = refl;
        kept = is;
        atoms = closed_atoms graph.atoms writable.closed ∙ sym (ap (λ f. f.atoms) drawn);
        each = λ bond held. subst (λ (bs : List QueryBond). Contains bs (unmarked bond)) (sym bonds) (in_mapped unmarked graph.bonds bond held);
        all = λ bond held. subst (λ (bs : List QueryBond). Contains bs bond) bonds held;
      }

  valid : IsValid own_query []
  valid = record { choice = done; made = tt; spelt = refl; logic = λ g group at some. absurd (omega (arith, some)) }

  stands : WithoutSlots → PassedQueriesFit → NoFaultWhereAllPass → IsWritable graph → 1 ≤ length graph.atoms → StandsFor (table_drawn graph) graph
  stands law fit no_fault writable some =
      let passed = passes writable some in
      let fits : QueryFits own_query = fit own_raw own_query (in_range writable) query_of passed in
      record {
        in_range = in_range writable;
        few = few_properties;
        query = own_query;
        is = query_of;
        passes = passed;
        no_fault = λ fault. no_fault own_raw own_query fault query_of passed;
        valid = valid;
        expanded = expanded law fits writable;
      }

-- the table of a structure stands for it
pub read_back : WithoutSlots → PassedQueriesFit → NoFaultWhereAllPass → StructuresAreReadBack
read_back law fit no_fault query code graph table fits expansion_is writable of =
    subst (λ (t : RawTable). StandsFor t graph) (sym (table_is graph table of))
    (stands graph expansion_is.kept law fit no_fault writable (some_atom query code graph fits expansion_is))
