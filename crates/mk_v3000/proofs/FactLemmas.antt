-- What the twin of every V3000 table keeps.
use Rattle.std.proofs.Common.{◌≡◌, ℕ, zero, suc, ◌+◌, ◌*◌, ◌-◌, ◌≤◌, Bool, true, false, cond, All, Result, Ok, Err, List, [], ◌∷◌, ◌++◌, map, length, refl, sym, ap, subst, ◌∙◌, arith}
use Rattle.std.specs.Prelude.{ℤ, pos, IfOk}
use Rattle.std.specs.List.{AllByRecursion}
use Rattle.std.proofs.lemmas.List.{length-append, length-map}
use Rattle.std.proofs.lemmas.List.Elements.{All-nil, All-from_recursion}
use Rattle.mk_props.specs.declared.property.Pair.{Pair}
use Rattle.mk_props.specs.declared.property.Property.{Property}
use Rattle.mk_props.specs.declared.property.Property.TheVariants as kinds
use Rattle.mk_tables.specs.declared.fault.TableFault.{TableFault}
use Rattle.mk_tables.specs.declared.raw.RawTable.{RawTable}
use Rattle.mk_tables.specs.Table.{IsKept}
use Rattle.mk_tables.specs.TableFacts.{HasSymbols, IsRawTable}
use Rattle.mk_tables.specs.TableLines.{Line}
use Rattle.mk_v3000.specs.declared.word_lines.AtomLine.{AtomLine}
use Rattle.mk_v3000.specs.declared.word_lines.BondLine.{BondLine}
use Rattle.mk_v3000.specs.Twin.{same_number, twin_atom, twin_bond, value_prop, props_of, props_from, indexes_of, twin_of}
use Rattle.mk_v3000.specs.V3000Form.{IsV3000TableFrom}
use Rattle.mk_v3000.specs.V3000Table.{IsV3000Table}
use Rattle.mk_v3000.proofs.FewLemmas.{counts_few}

-- ---- properties

-- what holds of two lists holds of both in one
all_both : (P : Property → Type 0) (xs ys : List Property) → AllByRecursion P xs → AllByRecursion P ys → AllByRecursion P (xs ++ ys)
all_both P [] ys h k = k
all_both P (x ∷ xs) ys h k = (h.0, all_both P xs ys h.1 k)

module _ (P : Property → Type 0) (charge : (pairs : List Pair) → P (kinds.Charge pairs))
    (radical : (pairs : List Pair) → P (kinds.Radical pairs))
    (isotope : (pairs : List Pair) → P (kinds.Isotope pairs)) where
  -- of one value
  of_value : (b : Bool) (kind : List Pair → Property) → ((pairs : List Pair) → P (kind pairs)) → (pairs : List Pair) → AllByRecursion P (cond b [] (kind pairs ∷ []))
  of_value true kind each pairs = tt
  of_value false kind each pairs = (each pairs, tt)

  -- of one atom
  of_atom : (place : ℕ) (a : AtomLine) → AllByRecursion P (props_of place a)
  of_atom place a =
      all_both P (value_prop kinds.Charge place a.charge)
      (value_prop kinds.Radical place a.radical ++ value_prop kinds.Isotope place a.mass)
      (of_value (same_number a.charge (pos 0)) kinds.Charge charge _)
      (all_both P (value_prop kinds.Radical place a.radical) (value_prop kinds.Isotope place a.mass)
      (of_value (same_number a.radical (pos 0)) kinds.Radical radical _)
      (of_value (same_number a.mass (pos 0)) kinds.Isotope isotope _))

  -- of all
  of_atoms : (atoms : List AtomLine) (place : ℕ) → AllByRecursion P (props_from place atoms)
  of_atoms [] place = tt
  of_atoms (a ∷ atoms) place = all_both P (props_of place a) (props_from (place + 1) atoms) (of_atom place a) (of_atoms atoms (place + 1))

-- a value is one property at most
one_value : (b : Bool) (p : Property) → length (cond b [] (p ∷ [])) ≤ 1
one_value true p = omega arith
one_value false p = omega arith

-- an atom has three at most
three_each : (atoms : List AtomLine) (place : ℕ) → length (props_from place atoms) ≤ 3 * length atoms
three_each [] place = omega arith
three_each (a ∷ atoms) place =
    let c = one_value (same_number a.charge (pos 0)) (kinds.Charge (record { atom = pos place; value = a.charge } ∷ [])) in
    let r = one_value (same_number a.radical (pos 0)) (kinds.Radical (record { atom = pos place; value = a.radical } ∷ [])) in
    let m = one_value (same_number a.mass (pos 0)) (kinds.Isotope (record { atom = pos place; value = a.mass } ∷ [])) in
    let first = length-append (value_prop kinds.Charge place a.charge) (value_prop kinds.Radical place a.radical ++ value_prop kinds.Isotope place a.mass) in
    let second = length-append (value_prop kinds.Radical place a.radical) (value_prop kinds.Isotope place a.mass) in
    let both = length-append (props_of place a) (props_from (place + 1) atoms) in
    let size : length (a ∷ atoms) ≡ suc (length atoms) = refl in
    omega (arith, c, r, m, first, second, both, size, three_each atoms (place + 1))

-- ---- the table

-- a table's atoms and bonds are no more than 999
few_of : (lines : List Line) (t : RawTable) (h : IsV3000Table lines t) → (length h.atoms ≤ 999) × (length h.bonds ≤ 999)
few_of lines t h = counts_few h.are.counts_line _ h.are.counted

pub keeps : (lines : List Line) (t : RawTable) → IsV3000Table lines t → IsRawTable t
keeps lines t h =
    let few = few_of lines t h in
    subst IsRawTable (sym h.twin) (record {
      few_atoms = omega (arith, few.0, length-map h.atoms twin_atom);
      few_bonds = omega (arith, few.1, length-map h.bonds (twin_bond (indexes_of h.atoms)));
      few_lists = omega arith;
      numbers = All-nil _;
      symbols = All-from_recursion HasSymbols _ (of_atoms HasSymbols (λ _. tt) (λ _. tt) (λ _. tt) h.atoms 1);
      kept = All-from_recursion IsKept _ (of_atoms IsKept (λ _. tt) (λ _. tt) (λ _. tt) h.atoms 1);
    })

-- and it has few properties
pub few_properties : (lines : List Line) (t : RawTable) → IsV3000Table lines t → length t.props ≤ 2997
few_properties lines t h =
    let few = few_of lines t h in
    let three = three_each h.atoms 1 in
    omega (arith, few.0, three, ap (λ (x : RawTable). length x.props) h.twin)

-- by what was answered
pub keeps_by : (lines : List Line) (at : ℕ) (answer : Result (RawTable × ℕ) TableFault) → IfOk answer (λ r. IsV3000TableFrom at lines r.1 r.0) → IfOk answer (λ r. IsRawTable r.0)
keeps_by lines at (Ok r) h = keeps _ r.0 h.part.is
keeps_by lines at (Err e) h = tt

pub few_by : (lines : List Line) (at : ℕ) (answer : Result (RawTable × ℕ) TableFault) → IfOk answer (λ r. IsV3000TableFrom at lines r.1 r.0) → IfOk answer (λ r. length r.0.props ≤ 2997)
few_by lines at (Ok r) h = few_properties _ r.0 h.part.is
few_by lines at (Err e) h = tt
