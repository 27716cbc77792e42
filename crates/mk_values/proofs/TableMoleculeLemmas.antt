-- A table has a first check that it fails, or a filled molecule.
--     known_demand          whether an item of a table meets a check
--     first_fault           so every check passes, or there is a first fault
--     filled_molecule       a table that passes every check has a filled molecule
--     fault_or_molecule     FaultOrMolecule
use Rattle.std.proofs.Common.{◌≡◌, ◌≤◌, ◌<◌, ◌+◌, ◌-◌, ◌*◌, ◌^◌, ℕ, zero, suc, Bool, true, false, cond, List, [], ◌∷◌, ◌++◌, Option, Some, None, IsTrue, refl, sym, ap, subst, ◌∙◌, arith, inl, inr, length, get_or, replicate, take, All, ⊎_elim}
use Rattle.std.specs.Prelude.{ℤ, pos, negsuc, ◌⊎◌, ◌==◌, ◌&&◌, codes, find, nat_le, slice_get}
use Rattle.std.specs.List.{list_any, AllByRecursion}
use Rattle.std.proofs.lemmas.Bool.{leb-true, and_parts}
use Rattle.std.proofs.lemmas.Int.{ints}
use Rattle.std.proofs.lemmas.List.{length-append, length-replicate, length-map, take_all}
use Rattle.std.proofs.lemmas.List.Elements.{All-cons, All-head, All-map, All-nil, All-tail}
use Rattle.std.proofs.lemmas.Option.{slice_get-get_or, slice_get_within}
use Rattle.mk_elements.specs.Symbols.{NamesElement, symbols}
use Rattle.mk_elements.specs.Valences.{Row, negative, positive, row_of, rows_at, uncharged, valences_of}
use Rattle.mk_text.specs.Items.{IsLeastFailing, OfItem}
use Rattle.mk_text.proofs.ForCallers.{all_of, of_item-past}
use Rattle.mk_props.specs.declared.property.Pair.{Pair}
use Rattle.mk_props.specs.declared.property.Property.{Property}
use Rattle.mk_props.specs.declared.property.Property.TheVariants as kinds
use Rattle.mk_model.specs.declared.edge.Edge.{Edge}
use Rattle.mk_model.specs.declared.molecule.Atom.{Atom}
use Rattle.mk_model.specs.declared.molecule.MolBond.{MolBond}
use Rattle.mk_model.specs.Edges.{IsBetween, IsSimple, degree}
use Rattle.mk_model.specs.Molecules.{HasMarks, IsElement, IsMolecule, Molecule, edges}
use Rattle.mk_marks.proofs.ForCallers.{mol_bonds_have_marks}
use Rattle.mk_valence.specs.Hydrogens.{added_hydrogens, bond_orders_sum, marked_valence, radical_share, up_to_valence}
use Rattle.mk_tables.specs.declared.raw.RawAtom.{RawAtom}
use Rattle.mk_tables.specs.declared.raw.RawBond.{RawBond}
use Rattle.mk_tables.specs.declared.raw.RawTable.{RawTable}
use Rattle.mk_demands.specs.Bonds.{HasTwoEnds, IsEdgeFront, IsNewBond, JoinSame, raw_edge, edges_of}
use Rattle.mk_demands.proofs.BondLemmas.{is_graph}
use Rattle.mk_demands.proofs.EdgeLemmas.{IsBetween-edge_of}
use Rattle.mk_demands.specs.Charges.{charge_at, charge_of_column, lists_values, last_or, radical_at, radical_of_column, radical_pairs, radicals_of, values_for}
use Rattle.mk_demands.specs.Numbers.{IsAtom, IsWithin, natural}
use Rattle.mk_demands.specs.Values.{AreForAtoms, HasKnownValues, HaveValues, NamesAtoms}
use Rattle.mk_mol.specs.Checks.{HasKnownType, IsKnownAtom, IsElementSymbol, IsOfMolecules}
use Rattle.mk_mol.specs.Filled.{AreGains, AreWrittenAtoms, IsFilled, IsWrittenAtom, gained_by, hydrogen_atom, hydrogen_bonds, kinds_at, owners}
use Rattle.mk_mol.specs.FirstFault.{MoleculeCheck, MoleculeDemands, IsFirstMoleculeFault, MeetsCheck, MeetsAllChecks, MeetsChecksBelow, few_bonds, known_atoms, known_properties, known_types, known_values, named_atoms, new_bonds, molecule_check_number}
use Rattle.mk_mol.specs.Putting.{IsSound}
use Rattle.mk_mol.proofs.FaultLemmas.{below_all, below_more, below_none, fault}
use Rattle.mk_mol.proofs.FilledLemmas.{filled_graph, is_filled, molecule}
use Rattle.mk_query.proofs.KnownLemmas.{Known, known_all, known_as, known_both, known_bytes, known_either, known_equal, known_if, known_integers, known_item, known_most, known_not, known_some_items, known_within, least_failing}
use Rattle.mk_values.specs.Laws.{FaultOrMolecule, IsMoleculeOfTable}

-- ---- single items

-- some place of a list holds the bytes
known_place : (xs : List (List ℕ)) (symbol : List ℕ) → Known ((k : ℕ) × (slice_get xs k ≡ Some symbol))
known_place [] symbol = inr (λ found. let at = found.1 in absurd cc)
known_place (x ∷ xs) symbol = known_as (known_either (known_bytes x symbol) (known_place xs symbol)) to back
  where
    to : (x ≡ symbol) ⊎ ((k : ℕ) × (slice_get xs k ≡ Some symbol)) → (k : ℕ) × (slice_get (x ∷ xs) k ≡ Some symbol)
    to (inl same) = (0, ap Some same)
    to (inr (k, at)) = (suc k, at)

    back : (k : ℕ) × (slice_get (x ∷ xs) k ≡ Some symbol) → (x ≡ symbol) ⊎ ((k : ℕ) × (slice_get xs k ≡ Some symbol))
    back (zero, at) = inl cc
    back (suc k, at) = inr (k, at)

-- some element has the symbol
known_name : (symbol : List ℕ) → Known (IsElementSymbol symbol)
known_name symbol = known_as (known_either (known_place symbols symbol) (known_either (known_bytes symbol (codes "D")) (known_bytes symbol (codes "T")))) to back
  where
    to : ((k : ℕ) × (slice_get symbols k ≡ Some symbol)) ⊎ ((symbol ≡ codes "D") ⊎ (symbol ≡ codes "T")) → IsElementSymbol symbol
    to (inl (k, at)) = (let place : k + 1 - 1 ≡ k = omega arith in record { element = k + 1; names = inl (omega arith, rw place at) })
    to (inr heavy) = record { element = 1; names = inr (refl, heavy) }

    by_name : (z : ℕ) → NamesElement symbol z → ((k : ℕ) × (slice_get symbols k ≡ Some symbol)) ⊎ ((symbol ≡ codes "D") ⊎ (symbol ≡ codes "T"))
    by_name z (inl is) = inl (z - 1, is.1)
    by_name z (inr heavy) = inr heavy.1

    back : IsElementSymbol symbol → ((k : ℕ) × (slice_get symbols k ≡ Some symbol)) ⊎ ((symbol ≡ codes "D") ⊎ (symbol ≡ codes "T"))
    back is = by_name is.element is.names

known_atom : (atom : RawAtom) → Known (IsKnownAtom atom)
known_atom atom =
    known_as (known_both (known_name atom.symbol) (known_both (known_within (pos 0) (pos 7) atom.charge) (known_within (pos 0) (pos 15) atom.valence)))
    (λ all. record { symbol = all.0; charge = all.1.0; valence = all.1.1 }) (λ is. (is.symbol, (is.charge, is.valence)))

known_new : (atoms : ℕ) (earlier : List RawBond) (bond : RawBond) → Known (IsNewBond atoms earlier bond)
known_new atoms earlier bond =
    known_as
    (known_both (known_both (known_within (pos 1) (pos atoms) bond.first) (known_both (known_within (pos 1) (pos atoms) bond.second) (known_not (known_integers bond.first bond.second))))
    (known_all (λ other. JoinSame other bond → ⊥) (λ other. known_not (known_same_ends other)) earlier))
    (λ all. record { ends = record { first = all.0.0; second = all.0.1.0; differ = all.0.1.1 }; new = all.1 })
    (λ is. ((is.ends.first, (is.ends.second, is.ends.differ)), is.new))
  where
    known_same_ends : (other : RawBond) → Known (JoinSame other bond)
    known_same_ends other =
        known_either (known_both (known_integers other.first bond.first) (known_integers other.second bond.second))
        (known_both (known_integers other.first bond.second) (known_integers other.second bond.first))

known_atoms_of : (atoms : ℕ) (pairs : List Pair) → Known (AreForAtoms atoms pairs)
known_atoms_of atoms pairs = known_all (λ (pair : Pair). IsAtom atoms pair.atom) (λ pair. known_within (pos 1) (pos atoms) pair.atom) pairs

known_named : (atoms : ℕ) (property : Property) → Known (NamesAtoms atoms property)
known_named atoms (kinds.Charge pairs) = known_atoms_of atoms pairs
known_named atoms (kinds.Radical pairs) = known_atoms_of atoms pairs
known_named atoms (kinds.Isotope pairs) = known_atoms_of atoms pairs
known_named atoms other = inl tt

known_have : (low high : ℤ) (pairs : List Pair) → Known (HaveValues low high pairs)
known_have low high pairs = known_all (λ (pair : Pair). IsWithin low high pair.value) (λ pair. known_within low high pair.value) pairs

known_given : (property : Property) → Known (HasKnownValues property)
known_given (kinds.Charge pairs) = known_have (negsuc 14) (pos 15) pairs
known_given (kinds.Radical pairs) = known_have (pos 0) (pos 3) pairs
known_given other = inl tt

known_property : (property : Property) → Known (IsOfMolecules property)
known_property (kinds.Charge pairs) = inl tt
known_property (kinds.Radical pairs) = inl tt
known_property (kinds.Isotope pairs) = inl tt
known_property other = inr (λ never. never)

-- ---- the checks

module _ (table : RawTable) where
  known_demand : (check : MoleculeCheck) (item : ℕ) → Known (MoleculeDemands table check item)
  known_demand known_atoms item = known_item IsKnownAtom known_atom table.atoms item
  known_demand new_bonds item = known_item (IsNewBond (length table.atoms) (take (item - 1) table.bonds)) (known_new (length table.atoms) (take (item - 1) table.bonds)) table.bonds item
  known_demand known_types item = known_item HasKnownType (λ bond. known_within (pos 1) (pos 4) bond.kind) table.bonds item
  known_demand few_bonds item = known_if (known_most 1 item) (known_if (known_most item (length table.atoms)) (known_most (degree (edges_of table.bonds) item) 20))
  known_demand named_atoms item = known_item (NamesAtoms (length table.atoms)) (known_named (length table.atoms)) table.props item
  known_demand known_values item = known_item HasKnownValues known_given table.props item
  known_demand known_properties item = known_both (known_if (known_equal item 0) (known_some_items table.lists)) (known_item IsOfMolecules known_property table.props item)

  -- the numbers of a check's items
  last_of : MoleculeCheck → ℕ
  last_of known_atoms = length table.atoms + 1
  last_of new_bonds = length table.bonds + 1
  last_of known_types = length table.bonds + 1
  last_of few_bonds = length table.atoms + 1
  last_of other = length table.props + 1

  -- past the last item none fails
  past_last : (check : MoleculeCheck) → ((j : ℕ) → j < last_of check → MoleculeDemands table check j) → (k : ℕ) → last_of check ≤ k → MoleculeDemands table check k
  unfolding last_of
  past_last known_atoms before k past = of_item-past IsKnownAtom table.atoms k (omega (arith, past))
  past_last new_bonds before k past = of_item-past (IsNewBond (length table.atoms) (take (k - 1) table.bonds)) table.bonds k (omega (arith, past))
  past_last known_types before k past = of_item-past HasKnownType table.bonds k (omega (arith, past))
  past_last few_bonds before k past = λ least most. absurd (omega (arith, past, most))
  past_last named_atoms before k past = of_item-past (NamesAtoms (length table.atoms)) table.props k (omega (arith, past))
  past_last known_values before k past = of_item-past HasKnownValues table.props k (omega (arith, past))
  past_last known_properties before k past = (λ none. absurd (omega (arith, none, past)), of_item-past IsOfMolecules table.props k (omega (arith, past)))

  -- the checks of lower numbers pass, or a first fault was found
  SoFar : ℕ → Type 0
  SoFar n = MeetsChecksBelow table n ⊎ ((check : ℕ) × ((item : ℕ) × IsFirstMoleculeFault table check item))

  one_more : (check : MoleculeCheck) → SoFar (molecule_check_number check) → SoFar (molecule_check_number check + 1)
  unfolding SoFar
  one_more check (inr found) = inr found
  one_more check (inl before) = by_items (least_failing (MoleculeDemands table check) (known_demand check) (last_of check) (past_last check))
    where
      by_items : ((k : ℕ) → MoleculeDemands table check k) ⊎ ((k : ℕ) × IsLeastFailing (MoleculeDemands table check) k) → SoFar (molecule_check_number check + 1)
      by_items (inl passes) = inl (below_more table check passes before)
      by_items (inr (item, least)) = inr (molecule_check_number check, (item, fault table check item before least))

  -- every check passes, or there is a first that fails
  pub first_fault : MeetsAllChecks table ⊎ ((check : ℕ) × ((item : ℕ) × IsFirstMoleculeFault table check item))
  unfolding SoFar
  first_fault =
      ⊎_elim (λ all. inl (below_all table all)) (λ found. inr found)
      (one_more known_properties (one_more known_values (one_more named_atoms (one_more few_bonds (one_more known_types (one_more new_bonds (one_more known_atoms (inl (below_none table)))))))))

-- ---- radicals

-- each of the pairs has a value from 0 to 3
abbrev HaveRadicals : List Pair → Type 0
HaveRadicals pairs = AllByRecursion (λ (pair : Pair). IsWithin (pos 0) (pos 3) pair.value) pairs

by_each : (pairs : List Pair) → HaveValues (pos 0) (pos 3) pairs → HaveRadicals pairs
by_each [] all = tt
by_each (pair ∷ pairs) all = (All-head (λ (p : Pair). IsWithin (pos 0) (pos 3) p.value) pair pairs all, by_each pairs (All-tail (λ (p : Pair). IsWithin (pos 0) (pos 3) p.value) pair pairs all))

and_more : (pairs others : List Pair) → HaveRadicals pairs → HaveRadicals others → HaveRadicals (pairs ++ others)
and_more [] others p q = q
and_more (pair ∷ pairs) others p q = (p.0, and_more pairs others p.1 q)

radicals_known : (property : Property) → HasKnownValues property → HaveRadicals (radicals_of property)
radicals_known (kinds.Radical pairs) known = by_each pairs known
radicals_known other known = tt

pairs_known : (props : List Property) → All HasKnownValues props → HaveRadicals (radical_pairs props)
pairs_known [] all = tt
pairs_known (property ∷ props) all =
    and_more (radicals_of property) (radical_pairs props) (radicals_known property (All-head HasKnownValues property props all)) (pairs_known props (All-tail HasKnownValues property props all))

-- the values for an atom are among them
values_known : (n : ℕ) (pairs : List Pair) → HaveRadicals pairs → AllByRecursion (IsWithin (pos 0) (pos 3)) (values_for n pairs)
values_known n [] all = tt
values_known n (pair ∷ pairs) all = by_test (natural pair.atom == n) (values_known n pairs all.1)
  where
    by_test : (b : Bool) → AllByRecursion (IsWithin (pos 0) (pos 3)) (values_for n pairs) → AllByRecursion (IsWithin (pos 0) (pos 3)) (cond b (pair.value ∷ values_for n pairs) (values_for n pairs))
    by_test true later = (all.0, later)
    by_test false later = later

last_known : (none : ℤ) (values : List ℤ) → IsWithin (pos 0) (pos 3) none → AllByRecursion (IsWithin (pos 0) (pos 3)) values → IsWithin (pos 0) (pos 3) (last_or none values)
last_known none [] is all = is
last_known none (value ∷ values) is all = last_known value values all.0 all.1

within_three : (n : ℕ) → n ≤ 3 → IsWithin (pos 0) (pos 3) (pos n)
within_three n most = record { least = omega (arith, ints); most = omega (arith, ints, most) }

column_known : (column : ℕ) → IsWithin (pos 0) (pos 3) (radical_of_column column)
column_known column = by_test (column == 4)
  where
    by_test : (b : Bool) → IsWithin (pos 0) (pos 3) (cond b (pos 2) (pos 0))
    by_test true = within_three 2 (omega arith)
    by_test false = within_three 0 (omega arith)

radical_known : (table : RawTable) → MeetsAllChecks table → (n : ℕ) (line : RawAtom) → IsWithin (pos 0) (pos 3) (radical_at table n line)
radical_known table passes n line = by_test (lists_values table.props)
  where
    by_test : (b : Bool) → IsWithin (pos 0) (pos 3) (cond b (last_or (pos 0) (values_for n (radical_pairs table.props))) (radical_of_column (natural line.charge)))
    by_test true = last_known (pos 0) (values_for n (radical_pairs table.props)) (within_three 0 (omega arith))
        (values_known n (radical_pairs table.props) (pairs_known table.props
        (all_of HasKnownValues table.props (passes known_values))))
    by_test false = column_known (natural line.charge)

natural_is : (z : ℤ) → IsWithin (pos 0) (pos 3) z → (pos (natural z) ≡ z) × (natural z ≤ 3)
natural_is (pos n) is = (refl, omega (arith, ints, is.most))
natural_is (negsuc n) is = absurd (omega (arith, ints, is.least))

-- ---- written atoms

-- how many elements there are
many : length symbols ≡ 118
unfolding symbols
many = refl

-- the number of an element
is_element : (symbol : List ℕ) (z : ℕ) → NamesElement symbol z → IsElement z
is_element symbol z (inl is) = (is.0, (let below = slice_get_within symbols (z - 1) symbol is.1 in omega (arith, below, many)))
is_element symbol z (inr heavy) = (omega (arith, heavy.0), omega (arith, heavy.0))

module _ (table : RawTable) (passes : MeetsAllChecks table) where
  -- the atom of an atom line
  written : (n : ℕ) (line : RawAtom) → IsKnownAtom line → Atom
  written n line known = record { element = known.symbol.element; charge = charge_at table n line; radical = natural (radical_at table n line) }

  -- those of all lines, of which the first has the number n
  all_written : (n : ℕ) (lines : List RawAtom) → All IsKnownAtom lines → List Atom
  all_written n [] all = []
  all_written n (line ∷ lines) all = written n line (All-head IsKnownAtom line lines all) ∷ all_written (n + 1) lines (All-tail IsKnownAtom line lines all)

  is_written : (n : ℕ) (line : RawAtom) (known : IsKnownAtom line) → IsWrittenAtom table n line (written n line known) × IsSound (written n line known)
  unfolding written
  is_written n line known =
      let radical = natural_is (radical_at table n line) (radical_known table passes n line) in
      (record { element = known.symbol.names; charge = refl; radical = radical.0 }, record { element = is_element line.symbol known.symbol.element known.symbol.names; radical = radical.1 })

  length_written : (n : ℕ) (lines : List RawAtom) (all : All IsKnownAtom lines) → length (all_written n lines all) ≡ length lines
  unfolding all_written
  length_written n [] all = refl
  length_written n (line ∷ lines) all = ap suc (length_written (n + 1) lines (All-tail IsKnownAtom line lines all))

  sound_written : (n : ℕ) (lines : List RawAtom) (all : All IsKnownAtom lines) → All IsSound (all_written n lines all)
  unfolding all_written
  sound_written n [] all = All-nil IsSound
  sound_written n (line ∷ lines) all =
      let known = All-head IsKnownAtom line lines all in
      All-cons IsSound (written n line known) (all_written (n + 1) lines (All-tail IsKnownAtom line lines all))
      (is_written n line known).1 (sound_written (n + 1) lines (All-tail IsKnownAtom line lines all))

  each_written : (n : ℕ) (lines : List RawAtom) (all : All IsKnownAtom lines) (i : ℕ) (line : RawAtom) (atom : Atom)
      → slice_get lines i ≡ Some line → slice_get (all_written n lines all) i ≡ Some atom
      → IsWrittenAtom table (n + i) line atom
  unfolding all_written
  each_written n [] all i line atom at there = absurd cc
  each_written n (first ∷ lines) all zero line atom at there =
      (let known = All-head IsKnownAtom first lines all in
      let same : first ≡ line = cc in
      let made : written n first known ≡ atom = cc in
      let here : n + 0 ≡ n = omega arith in
      rw here (subst (λ (l : RawAtom). IsWrittenAtom table n l atom) same (subst (IsWrittenAtom table n first) made (is_written n first known).0)))
  each_written n (first ∷ lines) all (suc i) line atom at there =
      (let later : n + suc i ≡ n + 1 + i = omega arith in
      rw later (each_written (n + 1) lines (All-tail IsKnownAtom first lines all) i line atom at there))

  -- ---- hydrogens

  -- how many each atom gains, of which the first has the number n
  all_gains : (n : ℕ) (lines : List RawAtom) → List Atom → List ℕ
  all_gains n [] atoms = []
  all_gains n (line ∷ lines) [] = 0 ∷ all_gains (n + 1) lines []
  all_gains n (line ∷ lines) (atom ∷ atoms) = gained_by table n line atom ∷ all_gains (n + 1) lines atoms

  length_gains : (n : ℕ) (lines : List RawAtom) (atoms : List Atom) → length (all_gains n lines atoms) ≡ length lines
  unfolding all_gains
  length_gains n [] atoms = refl
  length_gains n (line ∷ lines) [] = ap suc (length_gains (n + 1) lines [])
  length_gains n (line ∷ lines) (atom ∷ atoms) = ap suc (length_gains (n + 1) lines atoms)

  each_gained : (n : ℕ) (lines : List RawAtom) (atoms : List Atom) (i : ℕ) (line : RawAtom) (atom : Atom)
      → slice_get lines i ≡ Some line → slice_get atoms i ≡ Some atom
      → slice_get (all_gains n lines atoms) i ≡ Some (gained_by table (n + i) line atom)
  unfolding all_gains
  each_gained n [] atoms i line atom at there = absurd cc
  each_gained n (first ∷ lines) [] i line atom at there = absurd cc
  each_gained n (first ∷ lines) (x ∷ atoms) zero line atom at there =
      (let same : first ≡ line = cc in
      let made : x ≡ atom = cc in
      let here : n + 0 ≡ n = omega arith in
      rw here (ap (λ (l : RawAtom). Some (gained_by table n l x)) same ∙ ap (λ (a : Atom). Some (gained_by table n line a)) made))
  each_gained n (first ∷ lines) (x ∷ atoms) (suc i) line atom at there =
      (let later : n + suc i ≡ n + 1 + i = omega arith in
      rw later (each_gained (n + 1) lines atoms i line atom at there))

-- no valence is above 8
are_small : List ℕ → Bool
are_small [] = true
are_small (v ∷ vs) = nat_le v 8 && are_small vs

rows_small : List Row → Bool
rows_small [] = true
rows_small (r ∷ rows) = are_small r.valences && rows_small rows

small_row : (z : ℕ) (rows : List Row) → rows_small rows ≡ true → are_small (row_of z rows) ≡ true
unfolding rows_small are_small
small_row z [] is = refl
small_row z (r ∷ rows) is = by_test (z == r.element) (and_parts (are_small r.valences) (rows_small rows) is) (λ later. small_row z rows later)
  where
    by_test : (b : Bool) → (are_small r.valences ≡ true) × (rows_small rows ≡ true) → (rows_small rows ≡ true → are_small (row_of z rows) ≡ true) → are_small (cond b r.valences (row_of z rows)) ≡ true
    by_test true both later = both.0
    by_test false both later = later both.1

small_at : (charge : ℤ) → rows_small (rows_at charge) ≡ true
unfolding rows_small are_small
small_at (pos n) = by_test (n == 0) (n == 1)
  where
    by_test : (a b : Bool) → rows_small (cond a uncharged (cond b positive [])) ≡ true
    by_test true b = refl
    by_test false true = refl
    by_test false false = refl
small_at (negsuc n) = by_test (n == 0)
  where
    by_test : (a : Bool) → rows_small (cond a negative []) ≡ true
    by_test true = refl
    by_test false = refl

small_valences : (z : ℕ) (charge : ℤ) → are_small (valences_of z charge) ≡ true
small_valences z charge = small_row z (rows_at charge) (small_at charge)

small_up : (total : ℕ) (row : List ℕ) → are_small row ≡ true → up_to_valence total (find (λ v. nat_le total v) row) ≤ 8
unfolding are_small
small_up total [] is = omega arith
small_up total (v ∷ vs) is = (let both = and_parts (nat_le v 8) (are_small vs) is in by_test (nat_le total v) both.0 (small_up total vs both.1))
  where
    by_test : (b : Bool) → nat_le v 8 ≡ true → up_to_valence total (find (λ v. nat_le total v) vs) ≤ 8 → up_to_valence total (cond b (Some v) (find (λ v. nat_le total v) vs)) ≤ 8
    by_test true small later = (let most = leb-true v 8 small in omega (arith, most))
    by_test false small later = later

-- no atom gains more than its mark says, or 8
few_gained : (element : ℕ) (charge : ℤ) (radical mark : ℕ) (ks : List ℕ) → mark ≤ 15 → added_hydrogens element charge radical mark ks ≤ 15
few_gained element charge radical mark ks most = by_test (mark == 0)
  where
    marked : (b : Bool) → cond b 0 mark ≤ 15
    marked true = omega arith
    marked false = most

    by_test : (b : Bool) → cond b (up_to_valence (bond_orders_sum ks + radical_share radical)
        (find (λ v. nat_le (bond_orders_sum ks + radical_share radical) v) (valences_of element charge)))
        (marked_valence mark - bond_orders_sum ks) ≤ 15
    by_test true = (let few = small_up (bond_orders_sum ks + radical_share radical) (valences_of element charge) (small_valences element charge) in omega (arith, few))
    by_test false = (let few = marked (mark == 15) in omega (arith, few))

-- so few hydrogens are added
few_owners : (table : RawTable) (passes : MeetsAllChecks table) (n : ℕ) (lines : List RawAtom) (atoms : List Atom)
    (k : ℕ) → All IsKnownAtom lines → length (owners k (all_gains table passes n lines atoms)) ≤ 15 * length lines
unfolding all_gains
few_owners table passes n [] atoms k all = omega arith
few_owners table passes n (line ∷ lines) [] k all = (let later = few_owners table passes (n + 1) lines [] (k + 1) (All-tail IsKnownAtom line lines all) in omega (arith, later))
few_owners table passes n (line ∷ lines) (atom ∷ atoms) k all =
    (let later = few_owners table passes (n + 1) lines atoms (k + 1) (All-tail IsKnownAtom line lines all) in
    let mark : natural line.valence ≤ 15 = natural_small line.valence (All-head IsKnownAtom line lines all).valence in
    let here = few_gained atom.element atom.charge atom.radical (natural line.valence) (kinds_at (edges_of table.bonds) n) mark in
    let gained = gained_by table n line atom in
    omega (arith, later, here, length-append (replicate gained k) (owners (k + 1) (all_gains table passes (n + 1) lines atoms)), length-replicate gained k))
  where
    natural_small : (z : ℤ) → IsWithin (pos 0) (pos 15) z → natural z ≤ 15
    natural_small (pos n) is = omega (arith, ints, is.most)
    natural_small (negsuc n) is = omega arith

-- ---- the molecule

module _ (table : RawTable) (few_atoms : length table.atoms ≤ 999) (few : length table.bonds ≤ 999) (passes : MeetsAllChecks table) where
  known_lines : All IsKnownAtom table.atoms
  known_lines = all_of IsKnownAtom table.atoms (passes known_atoms)

  -- the written bonds are a simple list of edges
  simple_bonds : IsSimple (length table.atoms) (edges_of table.bonds)
  simple_bonds = is_graph (length table.atoms) table.bonds (edges_of table.bonds) front (passes new_bonds)
    where
      ends : All (HasTwoEnds (length table.atoms)) table.bonds
      ends k d below =
          let place : k + 1 - 1 ≡ k = omega arith in
          (passes new_bonds (k + 1) (get_or table.bonds k d) (omega arith) (rw place (slice_get-get_or table.bonds k d below))).ends

      whole : take (length (edges_of table.bonds)) table.bonds ≡ table.bonds
      whole = take_all (length (edges_of table.bonds)) table.bonds (omega (arith, length-map table.bonds raw_edge))

      front : IsEdgeFront (length table.atoms) table.bonds (edges_of table.bonds)
      front = record {
        few = omega (arith, length-map table.bonds raw_edge);
        edges_are = ap edges_of (sym whole);
        ends = subst (All (HasTwoEnds (length table.atoms))) (sym whole) ends;
        between = All-map (IsBetween (length table.atoms)) raw_edge table.bonds (λ k d below. IsBetween-edge_of (length table.atoms) (get_or table.bonds k d) (ends k d below));
        stops = λ short. absurd (omega (arith, short, length-map table.bonds raw_edge));
      }

  pub filled_molecule : (mol : Molecule) × IsMoleculeOfTable table mol
  filled_molecule =
      let atoms = all_written table passes 1 table.atoms known_lines in
      let size : length atoms ≡ length table.atoms = length_written table passes 1 table.atoms known_lines in
      let are : AreWrittenAtoms table atoms = record {
        size = size;
        each = λ i line atom at there. (let e : 1 + i ≡ i + 1 = omega arith
            in rw e at (each_written table passes 1 table.atoms known_lines i line atom at there));
      } in
      let gains = all_gains table passes 1 table.atoms atoms in
      let gained : AreGains table atoms gains = record {
        size = length_gains table passes 1 table.atoms atoms;
        each = λ i line atom at there. (let e : 1 + i ≡ i + 1 = omega arith
            in rw e at (each_gained table passes 1 table.atoms atoms i line atom at there));
      } in
      let os = owners 1 gains in
      let new = atoms ++ replicate (length os) hydrogen_atom in
      let plain = edges_of table.bonds ++ hydrogen_bonds (length atoms + 1) os in
      let drawn : IsSimple (length atoms) (edges_of table.bonds) = subst (λ (n : ℕ). IsSimple n (edges_of table.bonds)) (sym size) simple_bonds in
      let many : length gains ≡ length atoms = gained.size ∙ sym size in
      let graph : IsSimple (length new) plain = filled_graph atoms new (edges_of table.bonds) plain gains many drawn refl refl in
      let few_old : length (edges_of table.bonds) ≤ 999 = omega (arith, few, length-map table.bonds raw_edge) in
      let few_new : length new < 2 ^ 20 =
      (let few_os = few_owners table passes 1 table.atoms atoms 1 known_lines
      in omega (
        arith,
        few_os,
        few_atoms,
        size,
        length-append atoms (replicate (length os) hydrogen_atom),
        length-replicate (length os) hydrogen_atom,
      )) in
      let marked = mol_bonds_have_marks (length new) plain graph in
      let mol : Molecule = record { written = length atoms; atoms = new; bonds = marked.0 } in
      let kept : IsMolecule mol = molecule atoms new (edges_of table.bonds) plain gains (length atoms) marked.0 refl
      many few_old few_new (sound_written table passes 1 table.atoms known_lines) drawn refl refl marked.1
      (λ b bond at. subst (λ (es : List Edge). HasMarks es b bond) marked.1 (marked.2 b bond at)) in (
        mol,
        record {
          passes = passes;
          filled = is_filled table mol atoms new (edges_of table.bonds) plain gains (length atoms) marked.0 refl are gained refl refl refl marked.1 refl;
          kept = kept;
        },
      )

-- a table has a first check that it fails, or a filled molecule
pub fault_or_molecule : FaultOrMolecule
fault_or_molecule table few_atoms few =
    elim (first_fault table) [
      | inl passes ↦ inr (filled_molecule table few_atoms few passes)
      | inr found ↦ inl found
    ]
