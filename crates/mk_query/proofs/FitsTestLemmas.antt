-- The tests of the atoms of a table that passes: their numbers are such as a query may have.
--     tests_in_range
use Rattle.std.proofs.Common.{◌≡◌, ◌≤◌, ◌+◌, ◌-◌, ℕ, suc, Bool, true, false, cond, eqb, List, [], ◌∷◌, ◌++◌, Some, None, refl, ap, sym, subst, length, get_or, map, arith, inl, inr}
use Rattle.std.specs.Prelude.{ℤ, pos, negsuc, ◌≤ℤ◌, All, slice_get}
use Rattle.std.proofs.lemmas.Int.{ints}
use Rattle.std.proofs.lemmas.List.{length-map}
use Rattle.std.proofs.lemmas.List.Elements.{All-append, All-cons, All-filter, All-map, All-nil}
use Rattle.std.proofs.lemmas.Option.{slice_get_within, slice_get-get_or}
use Rattle.mk_elements.specs.Symbols.{NamesElement, symbols}
use Rattle.mk_text.proofs.ForCallers.{all_of}
use Rattle.mk_props.specs.declared.property.Pair.{Pair}
use Rattle.mk_props.specs.declared.property.Property.{Property}
use Rattle.mk_props.specs.declared.property.Property.TheVariants as kinds
use Rattle.mk_model.specs.declared.atom_test.AtomTest.{AtomTest}
use Rattle.mk_model.specs.declared.atom_test.Kind.{Kind}
use Rattle.mk_model.specs.declared.atom_test.Kind.TheVariants.{OneOf, NoneOf}
use Rattle.mk_model.specs.Molecules.{IsElement}
use Rattle.mk_model.specs.Tests.{IsKindInRange, IsListOfElements, IsTestInRange}
use Rattle.mk_tables.specs.declared.raw.RawAtom.{RawAtom}
use Rattle.mk_tables.specs.declared.raw.RawTable.{RawTable}
use Rattle.mk_demands.specs.Charges.{charge_at, charge_of_column, charge_pairs, charges_of, last_or, lists_values, radical_at, radical_of_column, radical_pairs, radicals_of, values_for}
use Rattle.mk_demands.specs.Numbers.{IsWithin, natural}
use Rattle.mk_tables.specs.TableFacts.{HasSymbols}
use Rattle.mk_query.specs.Checks.{HasQueryValues, IsQueryProperty, IsRingBondCount}
use Rattle.mk_query.specs.Compiled.{AreTestsOf, HasElements, IsKindOf, IsTestBy, IsTestDrawn, NameElements, is_not_list, kind_by, no_test, of_any, of_any_heavy, of_element, of_hetero, of_list}
use Rattle.mk_query.specs.Drawn.{ElementList, all_lists, by_numbers, by_symbols, is_site, list_in_force, listed_atom, lists_at, pairs_by, ring_bonds_of, substitutions_of, symbol_lists, value_at}
use Rattle.mk_query.specs.FirstFault.{query_properties}
use Rattle.mk_query.specs.InRange.{IsTableInRange}
use Rattle.mk_query.specs.Passed.{HasPassed}
use Rattle.mk_query.specs.SiteChecks.{HasKnownMembers}
use Rattle.mk_query.proofs.KindLemmas.{last_all, listed_at}
use Rattle.mk_query.proofs.ListMarkLemmas.{lists_of, symbols_first}
use Rattle.mk_query.proofs.FitsPointLemmas.{atom_line}
use Rattle.mk_query.proofs.TestLemmas.{right_atom}
use Rattle.mk_query.proofs.ValueLemmas.{last-append}

-- ---- elements

many : length symbols ≡ 118
unfolding symbols
many = refl

element_of : (symbol : List ℕ) (z : ℕ) → NamesElement symbol z → IsElement z
element_of symbol z (inl is) = (is.0, omega (arith, many, slice_get_within symbols (z - 1) symbol is.1))
element_of symbol z (inr hydrogen) = (omega (arith, hydrogen.0), omega (arith, hydrogen.0))

number_is : (z : ℤ) → IsWithin (pos 1) (pos 118) z → IsElement (natural z)
number_is (pos n) is = (omega (arith, ints, is.least), omega (arith, ints, is.most))
number_is (negsuc n) is = absurd (omega (arith, ints, is.least))

names_are : (names : List (List ℕ)) (elements : List ℕ) → NameElements names elements → All IsElement elements × (length elements ≡ length names)
names_are [] [] are = (All-nil IsElement, refl)
names_are [] (z ∷ elements) are = absurd are
names_are (symbol ∷ names) [] are = absurd are
names_are (symbol ∷ names) (z ∷ elements) are = (let others = names_are names elements are.1 in (All-cons IsElement z elements (element_of symbol z are.0) others.0, ap suc others.1))

-- a list is short, and not empty
abbrev pub IsShort : ElementList → Type 0
IsShort (by_numbers list) = (1 ≤ length list.numbers) × (length list.numbers ≤ 16)
IsShort (by_symbols list) = (1 ≤ length list.symbols) × (length list.symbols ≤ 16)

elements_right : (list : ElementList) (elements : List ℕ) → IsShort list → HasKnownMembers list → HasElements list elements → IsListOfElements elements
elements_right (by_numbers list) elements short known has = rw has (record {
  some = omega (arith, length-map list.numbers natural, short.0);
  few = omega (arith, length-map list.numbers natural, short.1);
  elements = All-map IsElement natural list.numbers (λ k d below. number_is (get_or list.numbers k d) (known k d below));
})
elements_right (by_symbols list) elements short known has =
    let are = names_are list.symbols elements has in
    record { some = omega (arith, are.1, short.0); few = omega (arith, are.1, short.1); elements = are.0 }

by_not : (not : Bool) (elements : List ℕ) → IsListOfElements elements → IsKindInRange (cond not (NoneOf elements) (OneOf elements))
by_not true elements right = right
by_not false elements right = right

-- ---- lists that are in force

lists_short : (p : Property) → HasSymbols p → All IsShort (lists_of p)
lists_short (kinds.List list) h = All-cons IsShort (by_symbols list) [] h (All-nil IsShort)
lists_short p h = All-nil IsShort

symbols_short : (props : List Property) → All HasSymbols props → All IsShort (symbol_lists props)
symbols_short [] all = All-nil IsShort
symbols_short (p ∷ props) all =
    subst (All IsShort) (sym (symbols_first p props))
    (All-append IsShort (lists_of p) (symbol_lists props) (lists_short p (all 0 p (omega arith))) (symbols_short props (λ k d below. all (suc k) d (omega (arith, below)))))

all_short : (table : RawTable) → IsTableInRange table → All IsShort (all_lists table)
all_short table raw =
    All-append IsShort (map by_numbers table.lists) (symbol_lists table.props)
    (All-map IsShort by_numbers table.lists (λ k d below. (let h = raw.numbers k d below in (h.0, omega (arith, h.1))))) (symbols_short table.props raw.symbols)

by_list : (list : ElementList) (elements : List ℕ) → IsListOfElements elements → IsKindInRange (kind_by list elements)
by_list list elements right = by_not (is_not_list list) elements right

short_at : (table : RawTable) (x : ℕ) → IsTableInRange table → All IsShort (lists_at table x)
short_at table x raw = All-filter (λ (list : ElementList). eqb (listed_atom list) x) IsShort (all_lists table) (all_short table raw)

kind_right : (table : RawTable) (i : ℕ) (line : RawAtom) (kind : Kind) → IsTableInRange table → HasPassed table
    → slice_get table.atoms i ≡ Some line → IsKindOf (list_in_force table (i + 1)) line.symbol kind → IsKindInRange kind
kind_right table i line kind raw passed at (of_element z names is) = rw is (element_of line.symbol z names)
kind_right table i line kind raw passed at (of_list word list force elements has is) =
    let short : IsShort list = last_all IsShort None (lists_at table (i + 1)) list (λ l e. absurd cc) (short_at table (i + 1) raw) force in
    let known : HasKnownMembers list = last_all HasKnownMembers None (lists_at table (i + 1)) list (λ l e. absurd cc) (listed_at table i line passed at).members force in
    rw is (by_list list elements (elements_right list elements short known has))
kind_right table i line kind raw passed at (of_any_heavy word is) = rw is tt
kind_right table i line kind raw passed at (of_hetero word is) = rw is tt
kind_right table i line kind raw passed at (of_any word is) = rw is tt

-- ---- values

-- what holds of each value that is given, and of the one before, holds of the last
last_pair : (P : ℤ → Type 0) (x : ℕ) (pairs : List Pair) (d : ℤ) → P d → All (λ pair. P pair.value) pairs → P (last_or d (values_for x pairs))
last_pair P x [] d is all = is
last_pair P x (pair ∷ pairs) d is all =
    let here : P pair.value = all 0 pair (omega arith) in
    let later : All (λ (p : Pair). P p.value) pairs = λ k e below. all (suc k) e (omega (arith, below)) in
    elim (eqb (natural pair.atom) x) as (λ t. P (last_or d (cond t (pair.value ∷ values_for x pairs) (values_for x pairs))))
    [ true ↦ last_pair P x pairs pair.value here later | false ↦ last_pair P x pairs d is later ]

last_value : (P : ℤ → Type 0) (x : ℕ) (select : Property → List Pair) (props : List Property) (d : ℤ) → P d
    → All (λ p. All (λ (pair : Pair). P pair.value) (select p)) props
    → P (last_or d (values_for x (pairs_by select props)))
last_value P x select [] d is all = is
last_value P x select (p ∷ props) d is all =
    let here : All (λ (pair : Pair). P pair.value) (select p) = all 0 p (omega arith) in
    let later : All (λ q. All (λ (pair : Pair). P pair.value) (select q)) props = λ k e below. all (suc k) e (omega (arith, below)) in
    subst P (sym (last-append x d (select p) (pairs_by select props)))
    (last_value P x select props (last_or d (values_for x (select p))) (last_pair P x (select p) d is here) later)

value_right : (table : RawTable) (P : ℤ → Type 0) (select : Property → List Pair) (x : ℕ) → HasPassed table → P (pos 0)
    → ((p : Property) → HasQueryValues p → All (λ (pair : Pair). P pair.value) (select p)) → P (value_at select table x)
value_right table P select x passed zero_is right =
    last_value P x select table.props (pos 0) zero_is
    (λ k d below. right (get_or table.props k d) (all_of (IsQueryProperty (length table.atoms)) table.props (passed.passes query_properties) k d below).values)

-- ring bonds and substitutions

abbrev IsCharge : ℤ → Type 0
IsCharge z = IsWithin (negsuc 14) (pos 15) z

abbrev IsRadical : ℤ → Type 0
IsRadical z = IsWithin (pos 0) (pos 3) z

abbrev IsSubstitution : ℤ → Type 0
IsSubstitution z = IsWithin (negsuc 1) (pos 6) z

ring_bonds_known : (p : Property) → HasQueryValues p → All (λ (pair : Pair). IsRingBondCount pair.value) (ring_bonds_of p)
ring_bonds_known (kinds.RingBonds pairs) h = h
ring_bonds_known p h = All-nil (λ (pair : Pair). IsRingBondCount pair.value)

substitutions_known : (p : Property) → HasQueryValues p → All (λ (pair : Pair). IsSubstitution pair.value) (substitutions_of p)
substitutions_known (kinds.Substitution pairs) h = h
substitutions_known p h = All-nil (λ (pair : Pair). IsSubstitution pair.value)

ring_bonds_right : (table : RawTable) (x : ℕ) → HasPassed table → IsRingBondCount (value_at ring_bonds_of table x)
ring_bonds_right table x passed =
    value_right table IsRingBondCount ring_bonds_of x passed (record { within = record { least = omega (arith, ints); most = omega (arith, ints) }; not_one = λ e. absurd cc }) ring_bonds_known

substitution_right : (table : RawTable) (x : ℕ) → HasPassed table → IsSubstitution (value_at substitutions_of table x)
substitution_right table x passed = value_right table IsSubstitution substitutions_of x passed (record { least = omega (arith, ints); most = omega (arith, ints) }) substitutions_known

-- charges and radicals

charges_known : (p : Property) → HasQueryValues p → All (λ (pair : Pair). IsCharge pair.value) (charges_of p)
charges_known (kinds.Charge pairs) h = h
charges_known p h = All-nil (λ (pair : Pair). IsCharge pair.value)

radicals_known : (p : Property) → HasQueryValues p → All (λ (pair : Pair). IsRadical pair.value) (radicals_of p)
radicals_known (kinds.Radical pairs) h = h
radicals_known p h = All-nil (λ (pair : Pair). IsRadical pair.value)

charge_pairs_are : (props : List Property) → pairs_by charges_of props ≡ charge_pairs props
charge_pairs_are [] = refl
charge_pairs_are (p ∷ props) = ap (λ (l : List Pair). charges_of p ++ l) (charge_pairs_are props)

radical_pairs_are : (props : List Property) → pairs_by radicals_of props ≡ radical_pairs props
radical_pairs_are [] = refl
radical_pairs_are (p ∷ props) = ap (λ (l : List Pair). radicals_of p ++ l) (radical_pairs_are props)

one_of : (P : ℤ → Type 0) (b : Bool) (y z : ℤ) → P y → P z → P (cond b y z)
one_of P true y z is_y is_z = is_y
one_of P false y z is_y is_z = is_z

column_charge : (n : ℕ) → IsCharge (charge_of_column n)
column_charge n =
    let small : (z : ℤ) → negsuc 14 ≤ℤ z → z ≤ℤ pos 15 → IsCharge z = λ z least most. record { least = least; most = most } in
    one_of IsCharge (eqb n 1) _ _ (small (pos 3) (omega (arith, ints)) (omega (arith, ints)))
    (one_of IsCharge (eqb n 2) _ _ (small (pos 2) (omega (arith, ints)) (omega (arith, ints)))
    (one_of IsCharge (eqb n 3) _ _ (small (pos 1) (omega (arith, ints)) (omega (arith, ints)))
    (one_of IsCharge (eqb n 5) _ _ (small (negsuc 0) (omega (arith, ints)) (omega (arith, ints)))
    (one_of IsCharge (eqb n 6) _ _ (small (negsuc 1) (omega (arith, ints)) (omega (arith, ints)))
    (one_of IsCharge (eqb n 7) _ _ (small (negsuc 2) (omega (arith, ints)) (omega (arith, ints))) (small (pos 0) (omega (arith, ints)) (omega (arith, ints))))))))

column_radical : (n : ℕ) → IsRadical (radical_of_column n)
column_radical n = one_of IsRadical (eqb n 4) (pos 2) (pos 0) (record { least = omega (arith, ints); most = omega (arith, ints) }) (record { least = omega (arith, ints); most = omega (arith, ints) })

charge_right : (table : RawTable) (x : ℕ) (line : RawAtom) → HasPassed table → IsCharge (charge_at table x line)
charge_right table x line passed =
    one_of IsCharge (lists_values table.props) (last_or (pos 0) (values_for x (charge_pairs table.props))) (charge_of_column (natural line.charge))
    (subst (λ (l : List Pair). IsCharge (last_or (pos 0) (values_for x l))) (charge_pairs_are table.props)
    (value_right table IsCharge charges_of x passed (record { least = omega (arith, ints); most = omega (arith, ints) }) charges_known))
    (column_charge (natural line.charge))

pub radical_right : (table : RawTable) (x : ℕ) (line : RawAtom) → HasPassed table → IsRadical (radical_at table x line)
radical_right table x line passed =
    one_of IsRadical (lists_values table.props) (last_or (pos 0) (values_for x (radical_pairs table.props))) (radical_of_column (natural line.charge))
    (subst (λ (l : List Pair). IsRadical (last_or (pos 0) (values_for x l))) (radical_pairs_are table.props)
    (value_right table IsRadical radicals_of x passed (record { least = omega (arith, ints); most = omega (arith, ints) }) radicals_known))
    (column_radical (natural line.charge))

-- ---- tests

drawn_right : (table : RawTable) (i : ℕ) (line : RawAtom) (test : AtomTest) → IsTableInRange table → HasPassed table
    → slice_get table.atoms i ≡ Some line → IsTestDrawn table (i + 1) line test → IsTestInRange test
drawn_right table i line test raw passed at drawn =
    let charge : IsCharge test.charge = rw drawn.charge (charge_right table (i + 1) line passed) in
    let radical : IsRadical (pos test.radical) = rw drawn.radical (radical_right table (i + 1) line passed) in
    let hydrogens : IsWithin (pos 0) (pos 5) (pos test.hydrogens) = rw drawn.hydrogens (right_atom table i line passed at).hydrogens in
    let ring_bonds : IsRingBondCount test.ring_bonds = rw drawn.ring_bonds (ring_bonds_right table (i + 1) passed) in
    let substitution : IsSubstitution test.substitution = rw drawn.substitution (substitution_right table (i + 1) passed) in
    record {
      kind = kind_right table i line test.kind raw passed at drawn.kind;
      charge = (charge.least, charge.most);
      radical = omega (arith, ints, radical.most);
      hydrogens = omega (arith, ints, hydrogens.most);
      ring_bonds = (ring_bonds.within.least, ring_bonds.within.most);
      no_single_ring_bond = λ e. ring_bonds.not_one e;
      substitution = (substitution.least, substitution.most);
    }

none_right : IsTestInRange no_test
none_right = record {
  kind = tt;
  charge = (omega (arith, ints), omega (arith, ints));
  radical = omega arith;
  hydrogens = omega arith;
  ring_bonds = (omega (arith, ints), omega (arith, ints));
  no_single_ring_bond = λ e. absurd cc;
  substitution = (omega (arith, ints), omega (arith, ints));
}

test_right : (table : RawTable) (i : ℕ) (line : RawAtom) (test : AtomTest) (site : Bool) → IsTableInRange table
    → HasPassed table → slice_get table.atoms i ≡ Some line → IsTestBy site table (i + 1) line test → IsTestInRange test
test_right table i line test true raw passed at is = rw is none_right
test_right table i line test false raw passed at is = drawn_right table i line test raw passed at is

-- the numbers of tests are those that a query may have
pub tests_in_range : (table : RawTable) (tests : List AtomTest) → IsTableInRange table → HasPassed table → AreTestsOf table tests → All IsTestInRange tests
tests_in_range table tests raw passed are k d below =
    let there = atom_line table (k + 1) (omega arith) (omega (arith, below, are.size)) in
    let place : k + 1 - 1 ≡ k = omega arith in
    let at : slice_get table.atoms k ≡ Some there.0 = rw place at there.1 in
    test_right table k there.0 (get_or tests k d) (is_site there.0) raw passed at (are.each k there.0 (get_or tests k d) at (slice_get-get_or tests k d below))
