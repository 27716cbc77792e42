-- The values that the property lines of a table give its atoms.
--     charge_read .. unsaturation_read     of each kind there is the entry of the atom, where its value isn't 0
--     value_from                           so the value of an atom is that of its test
--     no_pairs                             where there are no such lines
use Rattle.std.proofs.Common.{◌≡◌, ◌≢◌, ◌<◌, ◌+◌, ℕ, zero, suc, Bool, true, false, cond, eq-eqb, ne_eqb, List, [], ◌∷◌, ◌++◌, Some, refl, sym, ap, ◌∙◌, append_assoc, append-nil, arith, All}
use Rattle.std.specs.Prelude.{ℤ, pos, slice_get}
use Rattle.std.specs.Ordering.{int_eq}
use Rattle.std.proofs.lemmas.Bool.Decides.{Decides-int_eq}
use Rattle.mk_props.specs.declared.property.AtomList.{AtomList}
use Rattle.mk_props.specs.declared.property.Pair.{Pair}
use Rattle.mk_props.specs.declared.property.Property.{Property}
use Rattle.mk_props.specs.declared.property.Property.TheVariants as kinds
use Rattle.mk_model.specs.declared.atom_test.AtomTest.{AtomTest}
use Rattle.mk_model.specs.declared.atom_test.Kind.{Kind}
use Rattle.mk_model.specs.declared.atom_test.Kind.TheVariants.{Element, OneOf, NoneOf, NotHydrogen, Hetero, Anything}
use Rattle.mk_model.specs.declared.graph.GraphAtom.{GraphAtom}
use Rattle.mk_demands.specs.Charges.{charges_of, last_or, radicals_of, values_for}
use Rattle.mk_demands.proofs.ForCallers.{values_for-append}
use Rattle.mk_query.specs.Drawn.{pairs_by, ring_bonds_of, substitutions_of, unsaturations_of}
use Rattle.mk_query.proofs.ValueLemmas.{last-append}
use Rattle.mk_enum.specs.StructureTables.{atom_entries, entries_from, entry, list_entry, symbol_list, unsaturation}
use Rattle.mk_enum.proofs.EachEntryLemmas.{one_entry}

-- ---- pairs

-- the pairs of two lists of properties one after the other
pairs-append : (select : Property → List Pair) (ps qs : List Property) → pairs_by select (ps ++ qs) ≡ pairs_by select ps ++ pairs_by select qs
pairs-append select [] qs = refl
pairs-append select (p ∷ ps) qs =
    ap (λ (more : List Pair). select p ++ more) (pairs-append select ps qs) ∙ sym (append_assoc (select p) (pairs_by select ps) (pairs_by select qs))

-- the pair of atom x, where the value isn't 0
abbrev pub entry_pairs : ℕ → ℤ → List Pair
entry_pairs x value = cond (int_eq value (pos 0)) [] (one_entry x value)

module _ (select : Property → List Pair) where
  takes : (kind : List Pair → Property) (x : ℕ) (v : ℤ) → ((pairs : List Pair) → select (kind pairs) ≡ pairs) → pairs_by select (entry kind x v) ≡ entry_pairs x v
  takes kind x v reads = by_test (int_eq v (pos 0))
    where
      by_test : (b : Bool) → pairs_by select (cond b [] (kind (one_entry x v) ∷ [])) ≡ cond b [] (one_entry x v)
      by_test true = refl
      by_test false = append-nil (select (kind (one_entry x v))) ∙ reads (one_entry x v)

  passes : (kind : List Pair → Property) (x : ℕ) (v : ℤ) → ((pairs : List Pair) → select (kind pairs) ≡ []) → pairs_by select (entry kind x v) ≡ []
  passes kind x v reads = by_test (int_eq v (pos 0))
    where
      by_test : (b : Bool) → pairs_by select (cond b [] (kind (one_entry x v) ∷ [])) ≡ []
      by_test true = refl
      by_test false = append-nil (select (kind (one_entry x v))) ∙ reads (one_entry x v)

  list_passes : (x : ℕ) (kind : Kind) → ((list : AtomList) → select (kinds.List list) ≡ []) → pairs_by select (list_entry x kind) ≡ []
  list_passes x (Element z) reads = refl
  list_passes x (OneOf elements) reads = append-nil (select (symbol_list x false elements)) ∙ reads _
  list_passes x (NoneOf elements) reads = append-nil (select (symbol_list x true elements)) ∙ reads _
  list_passes x NotHydrogen reads = refl
  list_passes x Hetero reads = refl
  list_passes x Anything reads = refl

  both_parts : (ps qs : List Property) (a b : List Pair) → pairs_by select ps ≡ a → pairs_by select qs ≡ b → pairs_by select (ps ++ qs) ≡ a ++ b
  both_parts ps qs a b first second =
      pairs-append select ps qs ∙ ap (λ (x : List Pair). x ++ pairs_by select qs) first ∙ ap (λ (x : List Pair). a ++ x) second

  -- the pairs of an atom's lines, kind by kind
  in_parts : (x : ℕ) (test : AtomTest) (a b c d e f : List Pair) → pairs_by select (entry kinds.Charge x test.charge) ≡ a → pairs_by select (entry kinds.Radical x (pos test.radical)) ≡ b
      → pairs_by select (entry kinds.RingBonds x test.ring_bonds) ≡ c → pairs_by select (entry kinds.Substitution x test.substitution) ≡ d
      → pairs_by select (entry kinds.Unsaturation x (unsaturation test)) ≡ e → pairs_by select (list_entry x test.kind) ≡ f
      → pairs_by select (atom_entries x test) ≡ a ++ (b ++ (c ++ (d ++ (e ++ f))))
  in_parts x test a b c d e f one two three four five six =
      let fifth = both_parts (entry kinds.Unsaturation x (unsaturation test)) (list_entry x test.kind) e f five six in
      let fourth = both_parts (entry kinds.Substitution x test.substitution) _ d (e ++ f) four fifth in
      let third = both_parts (entry kinds.RingBonds x test.ring_bonds) _ c (d ++ (e ++ f)) three fourth in
      let second = both_parts (entry kinds.Radical x (pos test.radical)) _ b (c ++ (d ++ (e ++ f))) two third in
      both_parts (entry kinds.Charge x test.charge) _ a (b ++ (c ++ (d ++ (e ++ f)))) one second

-- of the charges
pub charge_read : (x : ℕ) (test : AtomTest) → pairs_by charges_of (atom_entries x test) ≡ entry_pairs x test.charge
charge_read x test =
    in_parts charges_of x test (entry_pairs x test.charge) [] [] [] [] [] (takes charges_of kinds.Charge x test.charge (λ ps. refl)) (passes charges_of kinds.Radical x (pos test.radical) (λ ps. refl))
    (passes charges_of kinds.RingBonds x test.ring_bonds (λ ps. refl)) (passes charges_of kinds.Substitution x test.substitution (λ ps. refl))
    (passes charges_of kinds.Unsaturation x (unsaturation test) (λ ps. refl)) (list_passes charges_of x test.kind (λ list. refl))
    ∙ append-nil (entry_pairs x test.charge)

-- of the radicals
pub radical_read : (x : ℕ) (test : AtomTest) → pairs_by radicals_of (atom_entries x test) ≡ entry_pairs x (pos test.radical)
radical_read x test =
    in_parts radicals_of x test [] (entry_pairs x (pos test.radical)) [] [] [] [] (passes radicals_of kinds.Charge x test.charge (λ ps. refl))
    (takes radicals_of kinds.Radical x (pos test.radical) (λ ps. refl)) (passes radicals_of kinds.RingBonds x test.ring_bonds (λ ps. refl))
    (passes radicals_of kinds.Substitution x test.substitution (λ ps. refl))
    (passes radicals_of kinds.Unsaturation x (unsaturation test) (λ ps. refl)) (list_passes radicals_of x test.kind (λ list. refl))
    ∙ append-nil (entry_pairs x (pos test.radical))

-- of the ring bonds
pub ring_bonds_read : (x : ℕ) (test : AtomTest) → pairs_by ring_bonds_of (atom_entries x test) ≡ entry_pairs x test.ring_bonds
ring_bonds_read x test =
    in_parts ring_bonds_of x test [] [] (entry_pairs x test.ring_bonds) [] [] [] (passes ring_bonds_of kinds.Charge x test.charge (λ ps. refl))
    (passes ring_bonds_of kinds.Radical x (pos test.radical) (λ ps. refl)) (takes ring_bonds_of kinds.RingBonds x test.ring_bonds (λ ps. refl))
    (passes ring_bonds_of kinds.Substitution x test.substitution (λ ps. refl))
    (passes ring_bonds_of kinds.Unsaturation x (unsaturation test) (λ ps. refl)) (list_passes ring_bonds_of x test.kind (λ list. refl))
    ∙ append-nil (entry_pairs x test.ring_bonds)

-- of the substitutions
pub substitution_read : (x : ℕ) (test : AtomTest) → pairs_by substitutions_of (atom_entries x test) ≡ entry_pairs x test.substitution
substitution_read x test =
    in_parts substitutions_of x test [] [] [] (entry_pairs x test.substitution) [] [] (passes substitutions_of kinds.Charge x test.charge (λ ps. refl))
    (passes substitutions_of kinds.Radical x (pos test.radical) (λ ps. refl)) (passes substitutions_of kinds.RingBonds x test.ring_bonds (λ ps. refl))
    (takes substitutions_of kinds.Substitution x test.substitution (λ ps. refl)) (passes substitutions_of kinds.Unsaturation x (unsaturation test) (λ ps. refl))
    (list_passes substitutions_of x test.kind (λ list. refl))
    ∙ append-nil (entry_pairs x test.substitution)

-- of the unsaturations
pub unsaturation_read : (x : ℕ) (test : AtomTest) → pairs_by unsaturations_of (atom_entries x test) ≡ entry_pairs x (unsaturation test)
unsaturation_read x test =
    in_parts unsaturations_of x test [] [] [] [] (entry_pairs x (unsaturation test)) [] (passes unsaturations_of kinds.Charge x test.charge (λ ps. refl))
    (passes unsaturations_of kinds.Radical x (pos test.radical) (λ ps. refl)) (passes unsaturations_of kinds.RingBonds x test.ring_bonds (λ ps. refl))
    (passes unsaturations_of kinds.Substitution x test.substitution (λ ps. refl)) (takes unsaturations_of kinds.Unsaturation x (unsaturation test) (λ ps. refl))
    (list_passes unsaturations_of x test.kind (λ list. refl))
    ∙ append-nil (entry_pairs x (unsaturation test))

-- ---- values

-- an entry gives nothing to another atom
other_value : (x n : ℕ) (v : ℤ) → x ≢ n → values_for n (entry_pairs x v) ≡ []
other_value x n v other = by_test (int_eq v (pos 0))
  where
    by_test : (b : Bool) → values_for n (cond b [] (one_entry x v)) ≡ []
    by_test true = refl
    by_test false = rw (ne_eqb x n other) refl

-- and its own atom has its value, or 0 where there is none
own_value : (x : ℕ) (v : ℤ) → last_or (pos 0) (values_for x (entry_pairs x v)) ≡ v
own_value x v = by_test (int_eq v (pos 0)) refl
  where
    by_test : (b : Bool) → int_eq v (pos 0) ≡ b → last_or (pos 0) (values_for x (cond b [] (one_entry x v))) ≡ v
    by_test true e = sym ((Decides-int_eq v (pos 0)).0 e)
    by_test false e = rw (eq-eqb x x refl) refl

module _ (select : Property → List Pair) (value : AtomTest → ℤ) (reads : (x : ℕ) (test : AtomTest) → pairs_by select (atom_entries x test) ≡ entry_pairs x (value test)) where
  parted : (x : ℕ) (atom : GraphAtom) (atoms : List GraphAtom)
      → pairs_by select (entries_from x (atom ∷ atoms)) ≡ entry_pairs x (value atom.test) ++ pairs_by select (entries_from (x + 1) atoms)
  parted x atom atoms =
      pairs-append select (atom_entries x atom.test) (entries_from (x + 1) atoms) ∙ ap (λ (ps : List Pair). ps ++ pairs_by select (entries_from (x + 1) atoms)) (reads x atom.test)

  -- the lines of later atoms give nothing to an earlier one
  none_before : (x n : ℕ) (atoms : List GraphAtom) → n < x → values_for n (pairs_by select (entries_from x atoms)) ≡ []
  none_before x n [] before = refl
  none_before x n (atom ∷ atoms) before =
      ap (values_for n) (parted x atom atoms) ∙ values_for-append n (entry_pairs x (value atom.test)) (pairs_by select (entries_from (x + 1) atoms))
      ∙ ap (λ (vs : List ℤ). vs ++ values_for n (pairs_by select (entries_from (x + 1) atoms))) (other_value x n (value atom.test) (λ same. omega (arith, same, before)))
      ∙ none_before (x + 1) n atoms (omega (arith, before))

  -- the value of an atom is that of its test
  pub value_from : (x i : ℕ) (atoms : List GraphAtom) (atom : GraphAtom) → slice_get atoms i ≡ Some atom
      → last_or (pos 0) (values_for (x + i) (pairs_by select (entries_from x atoms))) ≡ value atom.test
  value_from x i [] atom at = absurd cc
  value_from x zero (first ∷ atoms) atom at =
      let same : first ≡ atom = cc in
      let here : x + zero ≡ x = omega arith in
      rw here
      (ap (λ (ps : List Pair). last_or (pos 0) (values_for x ps)) (parted x first atoms)
      ∙ last-append x (pos 0) (entry_pairs x (value first.test)) (pairs_by select (entries_from (x + 1) atoms))
      ∙ ap (λ (vs : List ℤ). last_or (last_or (pos 0) (values_for x (entry_pairs x (value first.test)))) vs) (none_before (x + 1) x atoms (omega arith))
      ∙ own_value x (value first.test) ∙ ap (λ (a : GraphAtom). value a.test) same)
  value_from x (suc i) (first ∷ atoms) atom at =
      let later : x + suc i ≡ x + 1 + i = omega arith in
      rw later
      (ap (λ (ps : List Pair). last_or (pos 0) (values_for (x + 1 + i) ps)) (parted x first atoms)
      ∙ last-append (x + 1 + i) (pos 0) (entry_pairs x (value first.test)) (pairs_by select (entries_from (x + 1) atoms))
      ∙ ap (λ (vs : List ℤ). last_or (last_or (pos 0) vs) (values_for (x + 1 + i) (pairs_by select (entries_from (x + 1) atoms))))
      (other_value x (x + 1 + i) (value first.test) (λ same. omega (arith, same)))
      ∙ value_from (x + 1) i atoms atom at)

-- where no line is of a kind, there are no such pairs
pub no_pairs : (select : Property → List Pair) (props : List Property) → All (λ p. select p ≡ []) props → pairs_by select props ≡ []
no_pairs select [] none = refl
no_pairs select (p ∷ props) none =
    ap (λ (ps : List Pair). ps ++ pairs_by select props) (none 0 p (omega arith)) ∙ no_pairs select props (λ k d below. none (suc k) d (omega (arith, below)))
