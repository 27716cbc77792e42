-- The charges and radicals of atom lines, and those that hold once the values of properties were put.
use Rattle.std.proofs.Common.{◌≡◌, ◌<◌, ◌+◌, ℕ, Bool, true, false, List, [], ◌∷◌, ◌++◌, refl, ap, sym, ◌∙◌, length, get_or, take, drop, arith, ⊎_elim}
use Rattle.std.proofs.lemmas.Bool.{cases_lt}
use Rattle.std.proofs.lemmas.List.{length_push, take_at, length-take-le, get_or-take, get_or_append_left, get_or_push, get_or_default}
use Rattle.mk_props.specs.declared.property.Property.{Property}
use Rattle.mk_props.specs.declared.property.Property.TheVariants as kinds
use Rattle.mk_demands.specs.declared.charges.Electrons.{Electrons}
use Rattle.mk_tables.specs.declared.raw.RawAtom.{RawAtom}
use Rattle.mk_tables.specs.declared.raw.RawTable.{RawTable}
use Rattle.mk_demands.specs.Charges.{AreElectrons, charge_at, charge_of_column, charge_pairs, lists_values, radical_at, radical_of_column, radical_pairs, last_or, values_for}
use Rattle.mk_demands.specs.ChargePutting.{AreOfLines, IsOfLine, column_of, ArePut, HasPut}
use Rattle.std.proofs.lemmas.Option.{slice_get_within, get_or_from_slice_get}

-- one atom line more
pub lines-more : (aside : Bool) (lines : List RawAtom) (k : ℕ) (line : RawAtom) (atoms : List Electrons)
    (atom : Electrons) → k < length lines → line ≡ get_or lines k line → AreOfLines aside (take k lines) atoms
    → IsOfLine aside line atom → AreOfLines aside (take (k + 1) lines) (atoms ++ atom ∷ [])
lines-more aside lines k line atoms atom below at are is = record {
  size = omega (arith, length_push atoms atom, are.size, length-take-le k lines (omega arith), length-take-le (k + 1) lines (omega arith));
  each = λ i l a i_in.
      let size : length atoms ≡ k = are.size ∙ length-take-le k lines (omega arith) in
      let i_below : i < k + 1 = omega (arith, i_in, length-take-le (k + 1) lines (omega arith)) in
      rw (get_or-take (k + 1) lines i l i_below)
      (⊎_elim
      (λ earlier.
      let old : IsOfLine aside (get_or (take k lines) i l) (get_or atoms i a) = are.each i l a (omega (arith, length-take-le k lines (omega arith))) in
      let old' : IsOfLine aside (get_or lines i l) (get_or atoms i a) = rw (get_or-take k lines i l earlier) at old in
      rw (get_or_append_left atoms (atom ∷ []) a i (omega arith)) old')
      (λ last.
      let here : i ≡ k = omega arith in
      let same_line : get_or lines i l ≡ line = ap (λ (j : ℕ). get_or lines j l) here ∙ get_or_default lines k l line below ∙ sym at in
      let same_atom : get_or (atoms ++ atom ∷ []) i a ≡ atom = get_or_push atoms atom a i (size ∙ sym here) in
      rw (same_line, same_atom) is)
      (cases_lt i k));
}

-- ---- the values that hold

-- where no property gives values, no pairs are listed
none_listed : (props : List Property) → lists_values props ≡ false → (charge_pairs props ≡ []) × (radical_pairs props ≡ [])
none_listed [] none = (refl, refl)
none_listed (kinds.Charge pairs ∷ props) none = absurd cc
none_listed (kinds.Radical pairs ∷ props) none = absurd cc
none_listed (other ∷ props) none = none_listed props none

-- the charge that holds
charge_is : (aside : Bool) (table : RawTable) (n : ℕ) (line : RawAtom) → aside ≡ lists_values table.props
    → last_or (charge_of_column (column_of aside line)) (values_for n (charge_pairs table.props)) ≡ charge_at table n
    line
charge_is true table n line is = rw (← is) refl
charge_is false table n line is = rw (← is, (none_listed table.props (sym is)).0) refl

-- the radical that holds
radical_is : (aside : Bool) (table : RawTable) (n : ℕ) (line : RawAtom) → aside ≡ lists_values table.props
    → last_or (radical_of_column (column_of aside line)) (values_for n (radical_pairs table.props)) ≡ radical_at table n
    line
radical_is true table n line is = rw (← is) refl
radical_is false table n line is = rw (← is, (none_listed table.props (sym is)).1) refl

-- what the lines say is what holds once the values were put
pub are_electrons : (aside : Bool) (table : RawTable) (old new : List Electrons) → aside ≡ lists_values table.props
    → AreOfLines aside table.atoms old → ArePut (charge_pairs table.props) (radical_pairs table.props) old new
    → AreElectrons table new
are_electrons aside table old new is are put = record {
  size = put.size ∙ are.size;
  each = λ i line atom line_at atom_at.
      let i_in : i < length old = omega (arith, slice_get_within new i atom atom_at, put.size) in
      let at_line : get_or table.atoms i line ≡ line = get_or_from_slice_get table.atoms i line line line_at in
      let at_atom : get_or new i atom ≡ atom = get_or_from_slice_get new i atom atom atom_at in
      let p : IsOfLine aside line (get_or old i atom) = rw at_line at (are.each i line atom (slice_get_within table.atoms i line line_at)) in
      let q : HasPut (charge_pairs table.props) (radical_pairs table.props) (i + 1) (get_or old i atom) atom = rw at_atom at (put.each i atom i_in) in
      record {
        charge = q.charge ∙ ap (λ v. last_or v (values_for (i + 1) (charge_pairs table.props))) p.charge ∙ charge_is aside table (i + 1) line is;
        radical = q.radical ∙ ap (λ v. last_or v (values_for (i + 1) (radical_pairs table.props))) p.radical ∙ radical_is aside table (i + 1) line is;
      };
}

-- what a vector holds once a slice of all of it is written
pub put_back : (n : ℕ) (new old : List Electrons) → length new ≡ n → take n (new ++ drop (length new) old) ≡ new
put_back n new old size = take_at new (drop (length new) old) n size
