-- A raw query of which every table passes its own checks has a query.
--     query_there          the query
use Rattle.std.proofs.Common.{◌≡◌, ◌<◌, ◌+◌, ℕ, zero, suc, Bool, true, false, cond, List, [], ◌∷◌, Option, Some, None, refl, sym, ap, subst, ◌∙◌, arith, inl, inr, length, get_or, map, All}
use Rattle.std.specs.Prelude.{ℤ, ◌≤ℤ◌, pos, negsuc, ◌⊎◌, ◌==◌, codes, slice_get}
use Rattle.std.specs.Ordering.{int_eq}
use Rattle.std.proofs.lemmas.Int.{ints}
use Rattle.std.proofs.lemmas.List.Elements.{All-head, All-tail}
use Rattle.std.proofs.lemmas.Option.{slice_get-get_or}
use Rattle.mk_props.specs.declared.property.LogicLine.{LogicLine}
use Rattle.mk_props.specs.declared.property.Property.{Property}
use Rattle.mk_props.specs.declared.property.Property.TheVariants as kinds
use Rattle.mk_model.specs.declared.atom_test.AtomTest.{AtomTest}
use Rattle.mk_model.specs.declared.atom_test.Kind.{Kind}
use Rattle.mk_model.specs.declared.atom_test.Kind.TheVariants.{Element, NotHydrogen, Hetero, Anything}
use Rattle.mk_model.specs.declared.group.Group.{Group}
use Rattle.mk_model.specs.Queries.{QueryView}
use Rattle.mk_model.specs.Templates.{TemplateView}
use Rattle.mk_tables.specs.declared.raw.RawAtom.{RawAtom}
use Rattle.mk_tables.specs.declared.raw.RawTable.{RawTable}
use Rattle.mk_demands.specs.Charges.{charge_at, radical_at}
use Rattle.mk_demands.specs.Numbers.{natural}
use Rattle.mk_rgfile.specs.declared.raw_query.RawQuery.{RawQuery}
use Rattle.mk_query.specs.Checks.{IsElementName, IsQueryWord}
use Rattle.mk_query.specs.Compiled.{HasElements, IsGroupOf, IsKindOf, IsLogicOf, IsQueryOf, IsTemplateOf, IsTestBy, IsTestOf, NameElements, kind_by, logic_for, members_of_group, no_test, of_any, of_any_heavy, of_element, of_hetero, of_list, points_of, table_slots, query_tables}
use Rattle.mk_query.specs.CompileFaults.{PassEach}
use Rattle.mk_query.specs.Drawn.{ElementList, by_numbers, by_symbols, is_site, last_list, list_in_force, lists_at, query_bonds, ring_bonds_of, substitutions_of, unsaturations_of, value_at}
use Rattle.mk_query.specs.GroupMarks.{HasKnownLogic, IsKnownLogic}
use Rattle.mk_query.specs.Passed.{HasPassed}
use Rattle.mk_query.specs.SiteChecks.{HasKnownMembers}
use Rattle.mk_query.proofs.FitsTestLemmas.{radical_right}
use Rattle.mk_query.proofs.GroupLemmas.{blank_range, known_logic}
use Rattle.mk_query.proofs.KindLemmas.{last_all, last_some, listed_at}
use Rattle.mk_query.proofs.TestLemmas.{plain_symbol, right_atom}

-- ---- lists

-- what is there for each number below one makes a list
pub made : {Y : Type 0} (R : ℕ → Y → Type 0) (n : ℕ) → ((i : ℕ) → i < n → (y : Y) × R i y) → (ys : List Y) × (length ys ≡ n) × ((i : ℕ) (y : Y) → slice_get ys i ≡ Some y → R i y)
made R zero each = ([], refl, λ i y at. absurd cc)
made {Y} R (suc n) each =
    let first = each 0 (omega arith) in
    let others = made (λ i. R (suc i)) n (λ i below. each (suc i) (omega (arith, below))) in
    (first.0 ∷ others.0, ap suc others.1, by_place first.0 others.0 first.1 others.2)
  where
    by_place : (y : Y) (ys : List Y) → R 0 y → ((i : ℕ) (z : Y) → slice_get ys i ≡ Some z → R (suc i) z) → (i : ℕ) (z : Y) → slice_get (y ∷ ys) i ≡ Some z → R i z
    by_place y ys here later zero z at = (let same : y ≡ z = cc in subst (R 0) same here)
    by_place y ys here later (suc i) z at = later i z at

-- a number from 0 on
of_natural : (z : ℤ) → pos 0 ≤ℤ z → pos (natural z) ≡ z
of_natural (pos n) least = refl
of_natural (negsuc n) least = absurd (omega (arith, ints, least))

-- ---- kinds

names_there : (names : List (List ℕ)) → All IsElementName names → (elements : List ℕ) × NameElements names elements
names_there [] all = ([], tt)
names_there (symbol ∷ names) all =
    let first = All-head IsElementName symbol names all in
    let others = names_there names (All-tail IsElementName symbol names all) in
    (first.element ∷ others.0, (first.names, others.1))

elements_there : (list : ElementList) → HasKnownMembers list → (elements : List ℕ) × HasElements list elements
elements_there (by_numbers list) known = (map natural list.numbers, refl)
elements_there (by_symbols list) known = names_there list.symbols known

-- the last of some lists, where there are some
some_last : (lists : List ElementList) → (lists ≡ [] → ⊥) → (list : ElementList) × (last_list None lists ≡ Some list)
some_last [] some = absurd (some refl)
some_last (list ∷ lists) some = last_some list lists

module _ (table : RawTable) (passed : HasPassed table) (i : ℕ) (line : RawAtom) (at : slice_get table.atoms i ≡ Some line) where
  list_there : line.symbol ≡ codes "L" → (kind : Kind) × IsKindOf (list_in_force table (i + 1)) line.symbol kind
  list_there word =
      let listed = listed_at table i line passed at in
      let force = some_last (lists_at table (i + 1)) (listed.word.0 word) in
      let known = last_all HasKnownMembers None (lists_at table (i + 1)) force.0 (λ l e. absurd cc) listed.members force.1 in
      let elements = elements_there force.0 known in
      (kind_by force.0 elements.0, of_list word force.0 force.1 elements.0 elements.1 refl)

  kind_there : is_site line ≡ false → (kind : Kind) × IsKindOf (list_in_force table (i + 1)) line.symbol kind
  kind_there no_site = by_case (plain_symbol table i line passed at no_site).known
    where
      by_case : IsElementName line.symbol ⊎ IsQueryWord line.symbol → (kind : Kind) × IsKindOf (list_in_force table (i + 1)) line.symbol kind
      by_case (inl name) = (Element name.element, of_element name.element name.names refl)
      by_case (inr (inl l)) = list_there l
      by_case (inr (inr (inl a))) = (NotHydrogen, of_any_heavy a refl)
      by_case (inr (inr (inr (inl q)))) = (Hetero, of_hetero q refl)
      by_case (inr (inr (inr (inr (inl any))))) = (Anything, of_any any refl)
      by_case (inr (inr (inr (inr (inr site))))) = absurd ((plain_symbol table i line passed at no_site).no_site site)

  -- ---- tests

  test_there : (test : AtomTest) × IsTestOf table (i + 1) line test
  test_there = by_site (is_site line) refl
    where
      by_site : (site : Bool) → is_site line ≡ site → (test : AtomTest) × IsTestBy site table (i + 1) line test
      by_site true e = (no_test, refl)
      by_site false e =
          let kind = kind_there e in
          let radical = radical_right table (i + 1) line passed in
          let hydrogens = (right_atom table i line passed at).hydrogens in (
            record {
              kind = kind.0;
              charge = charge_at table (i + 1) line;
              radical = natural (radical_at table (i + 1) line);
              hydrogens = natural line.hydrogens;
              ring_bonds = value_at ring_bonds_of table (i + 1);
              substitution = value_at substitutions_of table (i + 1);
              unsaturated = int_eq (value_at unsaturations_of table (i + 1)) (pos 1);
            },
            record {
              kind = kind.1;
              charge = refl;
              radical = of_natural (radical_at table (i + 1) line) radical.least;
              hydrogens = of_natural line.hydrogens hydrogens.least;
              ring_bonds = refl;
              substitution = refl;
              unsaturated = refl;
            },
          )

-- ---- templates

no_line : RawAtom
no_line = record { symbol = []; charge = pos 0; hydrogens = pos 0; valence = pos 0 }

template_there : (table : RawTable) → HasPassed table → (template : TemplateView) × IsTemplateOf table template
template_there table passed =
    let tests = made (λ i test. (line : RawAtom) → slice_get table.atoms i ≡ Some line → IsTestOf table (i + 1) line test) (length table.atoms) (test_at table passed) in (
      record { atoms = tests.0; bonds = query_bonds table.bonds; slots = table_slots table; points = points_of table },
      record { atoms = record { size = tests.1; each = λ i line test line_at test_at. tests.2 i test test_at line line_at }; bonds = refl; slots = refl; points = refl },
    )
  where
    one_line : (a b : RawAtom) → Some a ≡ Some b → a ≡ b
    one_line a b e = cc

    test_at : (table : RawTable) → HasPassed table → (i : ℕ) → i < length table.atoms → (test : AtomTest) × ((line : RawAtom) → slice_get table.atoms i ≡ Some line → IsTestOf table (i + 1) line test)
    test_at table passed i below =
        let line = get_or table.atoms i no_line in
        let at : slice_get table.atoms i ≡ Some line = slice_get-get_or table.atoms i no_line below in
        let test = test_there table passed i line at in
        (test.0, λ other other_at. subst (λ (l : RawAtom). IsTestOf table (i + 1) l test.0) (one_line line other (sym at ∙ other_at)) test.1)

-- ---- groups

-- the first `M  LOG` of a group is such as there are
logic_here : (b : Bool) (first logic : LogicLine) (later : Option LogicLine) → cond b (Some first) later ≡ Some logic
    → IsKnownLogic first → (later ≡ Some logic → IsKnownLogic logic) → IsKnownLogic logic
logic_here true first logic later is known on = (let same : first ≡ logic = cc in subst IsKnownLogic same known)
logic_here false first logic later is known on = on is

logic_is : (g : ℕ) (props : List Property) (logic : LogicLine) → All HasKnownLogic props → logic_for g props ≡ Some logic → IsKnownLogic logic
logic_is g [] logic all is = absurd cc
logic_is g (kinds.Logic first ∷ props) logic all is =
    logic_here (natural first.group == g) first logic (logic_for g props) is
    (All-head HasKnownLogic (kinds.Logic first) props all)
    (λ later. logic_is g props logic (All-tail HasKnownLogic (kinds.Logic first) props all) later)
logic_is g (other ∷ props) logic all is = logic_is g props logic (All-tail HasKnownLogic other props all) is

module _ (raw : RawQuery) (root : HasPassed raw.root) (g : ℕ) where
  by_logic : (found : Option LogicLine) → logic_for g raw.root.props ≡ found → (group : Group) × (group.members ≡ members_of_group raw g) × IsLogicOf found group
  by_logic None is = (record { members = members_of_group raw g; then_group = 0; rest_hydrogen = false; range = blank_range.0 }, refl, (refl, (refl, blank_range.1)))
  by_logic (Some logic) is =
      let known = logic_is g raw.root.props logic (known_logic raw.root root) is in (
        record { members = members_of_group raw g; then_group = natural logic.then_group; rest_hydrogen = int_eq logic.rest (pos 1); range = known.range.0 },
        refl,
        (of_natural logic.then_group known.then_group.least, (refl, known.range.1)),
      )

  group_there : (group : Group) × IsGroupOf raw g group
  group_there = (let found = by_logic (logic_for g raw.root.props) refl in (found.0, record { members = found.1; logic = found.2 }))

-- ---- the query

pub query_there : (raw : RawQuery) → PassEach raw → (query : QueryView) × IsQueryOf raw query
query_there raw passed =
    let templates = made (λ t template. (table : RawTable) → slice_get (query_tables raw) t ≡ Some table → IsTemplateOf table template) (length (query_tables raw)) template_at in
    let groups = made (λ i group. IsGroupOf raw (i + 1) group) 32 (λ i below. group_there raw (record { groups = raw.groups; is_root = true; passes = passed 0 raw.root refl }) (i + 1)) in (
      record { templates = templates.0; groups = groups.0 },
      record {
        templates = record { size = templates.1; each = λ t table template table_at at. templates.2 t template at table table_at };
        groups = record { size = groups.1; each = groups.2 };
      },
    )
  where
    one_table : (a b : RawTable) → Some a ≡ Some b → a ≡ b
    one_table a b e = cc

    template_at : (t : ℕ) → t < length (query_tables raw) → (template : TemplateView) × ((table : RawTable) → slice_get (query_tables raw) t ≡ Some table → IsTemplateOf table template)
    template_at t below =
        let table = get_or (query_tables raw) t raw.root in
        let at : slice_get (query_tables raw) t ≡ Some table = slice_get-get_or (query_tables raw) t raw.root below in
        let template = template_there table (record { groups = raw.groups; is_root = (t == 0); passes = passed t table at }) in
        (template.0, λ other other_at. subst (λ (x : RawTable). IsTemplateOf x template.0) (one_table table other (sym at ∙ other_at)) template.1)
