-- The tests of atoms by what is noted of them.
--     names_atoms, known_values     what the charges of a table ask of its properties
--     value_small                   the values that property lines give are small numbers
--     drawn_is, site_is             the test of an atom
use Rattle.std.proofs.Common.{◌≡◌, ◌<◌, ◌+◌, ◌-◌, ℕ, suc, Bool, true, false, cond, eqb, List, [], ◌∷◌, ◌++◌, Some, ap, sym, subst, ◌∙◌, length, get_or, arith, ⊎_elim}
use Rattle.std.specs.Prelude.{ℤ, pos, negsuc, ◌≤ℤ◌, All, bytes_eq, codes, slice_get}
use Rattle.std.specs.Ordering.{int_eq}
use Rattle.std.proofs.lemmas.Int.{ints}
use Rattle.std.proofs.lemmas.Bool.{cases_lt, true≢false}
use Rattle.std.proofs.lemmas.List.{get_or_append_left, get_or_default, get_or_push, length_push}
use Rattle.std.proofs.lemmas.Option.{get_or_from_slice_get, slice_get-get_or, slice_get_within}
use Rattle.mk_text.proofs.ForCallers.{all_of}
use Rattle.mk_props.specs.declared.property.Pair.{Pair}
use Rattle.mk_props.specs.declared.property.Property.{Property}
use Rattle.mk_props.specs.declared.property.Property.TheVariants as kinds
use Rattle.mk_model.specs.declared.atom_test.AtomTest.{AtomTest}
use Rattle.mk_demands.specs.declared.charges.Electrons.{Electrons}
use Rattle.mk_tables.specs.declared.raw.RawAtom.{RawAtom}
use Rattle.mk_tables.specs.declared.raw.RawTable.{RawTable}
use Rattle.mk_demands.specs.Charges.{last_or, values_for}
use Rattle.mk_demands.specs.Numbers.{IsWithin, natural}
use Rattle.mk_demands.specs.Values.{HasKnownValues, NamesAtoms}
use Rattle.mk_query.specs.declared.atom_tests.AtomNotes.{AtomNotes}
use Rattle.mk_query.specs.declared.list_places.ListPlace.{ListPlace}
use Rattle.mk_query.specs.Checks.{HasQueryValues, IsQueryAtom, IsQueryProperty, NamesItsAtoms}
use Rattle.mk_query.specs.Compiled.{AreTestsOf, IsTestBy, IsTestDrawn, IsTestOf, no_test}
use Rattle.mk_query.specs.Drawn.{is_site, list_in_force, pairs_by, ring_bonds_of, substitutions_of, unsaturations_of, value_at}
use Rattle.mk_query.specs.FirstFault.{query_atoms, query_properties}
use Rattle.mk_query.specs.KindMarks.{AreKnownAt, IsKindFor, IsPlainSymbol}
use Rattle.mk_query.specs.LastValues.{AreLastValues}
use Rattle.mk_query.specs.ListMarks.{IsPlaceOf}
use Rattle.mk_query.specs.Passed.{HasPassed}
use Rattle.mk_query.specs.TestMarks.{AreNotes, AreTestsTo}
use Rattle.mk_query.proofs.KindLemmas.{kind_is, known_at}
use Rattle.mk_query.proofs.ValueLemmas.{last-append}

-- ---- charges

names_of : (n : ℕ) (p : Property) → NamesItsAtoms n p → NamesAtoms n p
names_of n (kinds.Charge pairs) h = h
names_of n (kinds.Radical pairs) h = h
names_of n (kinds.Isotope pairs) h = h
names_of n p h = tt

values_of : (p : Property) → HasQueryValues p → HasKnownValues p
values_of (kinds.Charge pairs) h = h
values_of (kinds.Radical pairs) h = h
values_of p h = tt

pub names_atoms : (table : RawTable) → HasPassed table → All (NamesAtoms (length table.atoms)) table.props
names_atoms table passed k d below = names_of (length table.atoms) (get_or table.props k d) (all_of (IsQueryProperty (length table.atoms)) table.props (passed.passes query_properties) k d below).named

pub known_values : (table : RawTable) → HasPassed table → All HasKnownValues table.props
known_values table passed k d below = values_of (get_or table.props k d) (all_of (IsQueryProperty (length table.atoms)) table.props (passed.passes query_properties) k d below).values

-- ---- values

-- a number of few bits
abbrev pub IsSmallNumber : ℤ → Type 0
IsSmallNumber z = IsWithin (negsuc 14) (pos 15) z

last_within : (x : ℕ) (pairs : List Pair) (d : ℤ) → IsSmallNumber d → All (λ pair. IsSmallNumber pair.value) pairs → IsSmallNumber (last_or d (values_for x pairs))
last_within x [] d small all = small
last_within x (pair ∷ pairs) d small all =
    let here : IsSmallNumber pair.value = all 0 pair (omega arith) in
    let later : All (λ p. IsSmallNumber p.value) pairs = λ k e below. all (suc k) e (omega (arith, below)) in
    elim (eqb (natural pair.atom) x) as (λ t. IsSmallNumber (last_or d (cond t (pair.value ∷ values_for x pairs) (values_for x pairs))))
    [ true ↦ last_within x pairs pair.value here later | false ↦ last_within x pairs d small later ]

props_within : (x : ℕ) (select : Property → List Pair) (props : List Property) (d : ℤ) → IsSmallNumber d
    → All (λ p. All (λ pair. IsSmallNumber pair.value) (select p)) props
    → IsSmallNumber (last_or d (values_for x (pairs_by select props)))
props_within x select [] d small all = small
props_within x select (p ∷ props) d small all =
    let here : All (λ pair. IsSmallNumber pair.value) (select p) = all 0 p (omega arith) in
    let later : All (λ q. All (λ pair. IsSmallNumber pair.value) (select q)) props = λ k e below. all (suc k) e (omega (arith, below)) in
    subst IsSmallNumber (sym (last-append x d (select p) (pairs_by select props)))
    (props_within x select props (last_or d (values_for x (select p))) (last_within x (select p) d small here) later)

none_small : All (λ (pair : Pair). IsSmallNumber pair.value) []
none_small k d below = absurd (omega (arith, below))

widened : (low high z : ℤ) → negsuc 14 ≤ℤ low → high ≤ℤ pos 15 → IsWithin low high z → IsSmallNumber z
widened low high z from to is = record { least = omega (arith, ints, from, is.least); most = omega (arith, ints, to, is.most) }

ring_bonds_small : (p : Property) → HasQueryValues p → All (λ pair. IsSmallNumber pair.value) (ring_bonds_of p)
ring_bonds_small (kinds.RingBonds pairs) h = λ k d below. widened (negsuc 1) (pos 4) (get_or pairs k d).value (omega (arith, ints)) (omega (arith, ints)) (h k d below).within
ring_bonds_small p h = none_small

substitutions_small : (p : Property) → HasQueryValues p → All (λ pair. IsSmallNumber pair.value) (substitutions_of p)
substitutions_small (kinds.Substitution pairs) h = λ k d below. widened (negsuc 1) (pos 6) (get_or pairs k d).value (omega (arith, ints)) (omega (arith, ints)) (h k d below)
substitutions_small p h = none_small

value_small : (table : RawTable) (select : Property → List Pair) (x : ℕ) → HasPassed table
    → ((p : Property) → HasQueryValues p → All (λ pair. IsSmallNumber pair.value) (select p))
    → IsSmallNumber (value_at select table x)
value_small table select x passed small =
    props_within x select table.props (pos 0) (record { least = omega (arith, ints); most = omega (arith, ints) })
    (λ k d below. small (get_or table.props k d) (all_of (IsQueryProperty (length table.atoms)) table.props (passed.passes query_properties) k d below).values)

-- the value at the place of an atom
noted_is : (table : RawTable) (select : Property → List Pair) (values : List ℤ) (i : ℕ) (v : ℤ)
    → length values ≡ length table.atoms → AreLastValues select table.props values → i < length table.atoms
    → v ≡ get_or values i v
    → v ≡ value_at select table (i + 1)
noted_is table select values i v size are below is = is ∙ get_or_default values i v (pos 0) (omega (arith, size, below)) ∙ are i (omega (arith, size, below))

pub ring_bonds_fit : (table : RawTable) (notes : AtomNotes) (i : ℕ) (v : ℤ) → HasPassed table → AreNotes table notes → i < length table.atoms → v ≡ get_or notes.ring_bonds.items i v → IsSmallNumber v
ring_bonds_fit table notes i v passed are below is =
    subst IsSmallNumber (sym (noted_is table ring_bonds_of notes.ring_bonds.items i v are.ring_bonds_size
    are.ring_bonds_are below is)) (value_small table ring_bonds_of (i + 1) passed ring_bonds_small)

pub substitution_fits : (table : RawTable) (notes : AtomNotes) (i : ℕ) (v : ℤ) → HasPassed table → AreNotes table notes
    → i < length table.atoms → v ≡ get_or notes.substitutions.items i v → IsSmallNumber v
substitution_fits table notes i v passed are below is =
    subst IsSmallNumber (sym (noted_is table substitutions_of notes.substitutions.items i v are.substitutions_size
    are.substitutions_are below is)) (value_small table substitutions_of (i + 1) passed substitutions_small)

-- ---- one atom

-- the line that is read at a place
pub line_at : (table : RawTable) (lines : List RawAtom) (i : ℕ) (line : RawAtom) → lines ≡ table.atoms → line ≡ get_or lines i line → i < length table.atoms → slice_get table.atoms i ≡ Some line
line_at table lines i line same is below = slice_get-get_or table.atoms i line below ∙ ap Some (sym (is ∙ ap (λ (l : List RawAtom). get_or l i line) same))

-- the check of atoms at an atom
pub right_atom : (table : RawTable) (i : ℕ) (line : RawAtom) → HasPassed table → slice_get table.atoms i ≡ Some line → IsQueryAtom line
right_atom table i line passed at = (let place : i + 1 - 1 ≡ i = omega arith in passed.passes query_atoms (i + 1) line (omega arith) (rw place at))

pub plain_symbol : (table : RawTable) (i : ℕ) (line : RawAtom) → HasPassed table → slice_get table.atoms i ≡ Some line → is_site line ≡ false → IsPlainSymbol line.symbol
plain_symbol table i line passed at no_site = record {
  known = (right_atom table i line passed at).symbol;
  no_site = λ e. true≢false (sym (ap (λ (s : List ℕ). bytes_eq s (codes "R#")) e) ∙ no_site);
}

-- what is noted of the list that is in force for it
pub place_is : (table : RawTable) (notes : AtomNotes) (i : ℕ) (put : ListPlace) → AreNotes table notes
    → i < length table.atoms → put ≡ get_or notes.places.items i put
    → IsPlaceOf table.lists table.props put (list_in_force table (i + 1))
place_is table notes i put are below is =
    subst (λ (p : ListPlace). IsPlaceOf table.lists table.props p (list_in_force table (i + 1))) (sym is) (are.places_are i put (omega (arith, are.places_size, below)))

pub known_place : (table : RawTable) (notes : AtomNotes) (i : ℕ) (line : RawAtom) (put : ListPlace) → HasPassed table
    → AreNotes table notes → slice_get table.atoms i ≡ Some line → put ≡ get_or notes.places.items i put
    → AreKnownAt table.lists table.props put
known_place table notes i line put passed are at is = known_at table i line put passed at (place_is table notes i put are (slice_get_within table.atoms i line at) is)

-- the test of an atom that is no site
pub drawn_is : (table : RawTable) (notes : AtomNotes) (i : ℕ) (line : RawAtom) (put : ListPlace) (electrons : Electrons)
    (ring_bonds substitution unsaturated : ℤ) (test : AtomTest) → HasPassed table → AreNotes table notes
    → slice_get table.atoms i ≡ Some line → is_site line ≡ false
    → put ≡ get_or notes.places.items i put → IsKindFor line.symbol table.lists table.props put test.kind
    → electrons ≡ get_or notes.electrons.items i electrons → test.charge ≡ electrons.charge → test.radical ≡ electrons.radical → pos test.hydrogens ≡ line.hydrogens
    → ring_bonds ≡ get_or notes.ring_bonds.items i ring_bonds → test.ring_bonds ≡ ring_bonds → substitution ≡ get_or notes.substitutions.items i substitution → test.substitution ≡ substitution
    → unsaturated ≡ get_or notes.unsaturations.items i unsaturated → test.unsaturated ≡ int_eq unsaturated (pos 1) → IsTestOf table (i + 1) line test
drawn_is table notes i line put electrons ring_bonds substitution unsaturated test passed are at no_site place_so kind
    electrons_so charge radical hydrogens ring_bonds_so ring_bonds_are substitution_so substitution_are unsaturated_so
    unsaturated_are =
    let below = slice_get_within table.atoms i line at in
    let has = are.electrons_are.each i line electrons at (slice_get-get_or notes.electrons.items i electrons (omega (arith, are.electrons_are.size, below)) ∙ ap Some (sym electrons_so)) in
    let drawn : IsTestDrawn table (i + 1) line test = record {
      kind = kind_is table i line put test.kind passed at (place_is table notes i put are below place_so) kind;
      charge = charge ∙ has.charge;
      radical = ap pos radical ∙ has.radical;
      hydrogens = hydrogens;
      ring_bonds = ring_bonds_are ∙ noted_is table ring_bonds_of notes.ring_bonds.items i ring_bonds are.ring_bonds_size are.ring_bonds_are below ring_bonds_so;
      substitution = substitution_are ∙ noted_is table substitutions_of notes.substitutions.items i substitution are.substitutions_size are.substitutions_are below substitution_so;
      unsaturated = unsaturated_are ∙ ap (λ (v : ℤ). int_eq v (pos 1))
          (noted_is table unsaturations_of notes.unsaturations.items i unsaturated are.unsaturations_size
          are.unsaturations_are below unsaturated_so);
    } in
    subst (λ (b : Bool). IsTestBy b table (i + 1) line test) (sym no_site) drawn

-- the test of a site
pub site_is : (table : RawTable) (i : ℕ) (line : RawAtom) (test : AtomTest) → is_site line ≡ true → test ≡ no_test → IsTestOf table (i + 1) line test
site_is table i line test site is = subst (λ (b : Bool). IsTestBy b table (i + 1) line test) (sym site) is

-- the test of the line that stands there is that of each line that does
pub each_line : (table : RawTable) (i : ℕ) (line : RawAtom) (test : AtomTest) → slice_get table.atoms i ≡ Some line → IsTestOf table (i + 1) line test
    → (other : RawAtom) → slice_get table.atoms i ≡ Some other → IsTestOf table (i + 1) other test
each_line table i line test at is other there = (let same : line ≡ other = cc in subst (λ (l : RawAtom). IsTestOf table (i + 1) l test) same is)

-- ---- all atoms

pub tests_none : (table : RawTable) (tests : List AtomTest) → tests ≡ [] → AreTestsTo table 0 tests
tests_none table tests is = record { size = ap length is; each = λ i line d below. absurd (omega arith) }

-- one atom more
pub tests_more : (table : RawTable) (k : ℕ) (tests : List AtomTest) (test : AtomTest)
    → ((line : RawAtom) → slice_get table.atoms k ≡ Some line → IsTestOf table (k + 1) line test)
    → AreTestsTo table k tests
    → AreTestsTo table (k + 1) (tests ++ test ∷ [])
tests_more table k tests test made are = record {
  size = omega (arith, length_push tests test, are.size);
  each = λ i line d below at.
      ⊎_elim
      (λ earlier. rw (get_or_append_left tests (test ∷ []) d i (omega (arith, are.size))) (are.each i line d earlier at))
      (λ last.
      let here : i ≡ k = omega arith in
      rw (get_or_push tests test d i (are.size ∙ sym here), here) (made line (rw here at at)))
      (cases_lt i k);
}

-- all
pub tests_all : (table : RawTable) (k : ℕ) (tests : List AtomTest) → length table.atoms ≡ k → AreTestsTo table k tests → AreTestsOf table tests
tests_all table k tests all are = record {
  size = are.size ∙ sym all;
  each = λ i line test line_at test_at.
      let here = are.each i line test (omega (arith, all, slice_get_within table.atoms i line line_at)) line_at in
      rw (get_or_from_slice_get tests i test test test_at) at here;
}
