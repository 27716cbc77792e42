-- What holds of each property line of a table.
--     entries_each     what holds of the six kinds of line holds of all
--     few_entries      an atom has at most six
use Rattle.std.proofs.Common.{◌≡◌, ◌≤◌, ◌+◌, ◌*◌, ℕ, suc, Bool, true, false, cond, List, [], ◌∷◌, ◌++◌, length, refl, arith, All}
use Rattle.std.specs.Prelude.{ℤ, pos}
use Rattle.std.specs.Ordering.{int_eq}
use Rattle.std.proofs.lemmas.List.{length-append}
use Rattle.std.proofs.lemmas.List.Elements.{All-append, All-cons, All-nil}
use Rattle.mk_props.specs.declared.property.Pair.{Pair}
use Rattle.mk_props.specs.declared.property.Property.{Property}
use Rattle.mk_props.specs.declared.property.Property.TheVariants as kinds
use Rattle.mk_model.specs.declared.atom_test.AtomTest.{AtomTest}
use Rattle.mk_model.specs.declared.atom_test.Kind.{Kind}
use Rattle.mk_model.specs.declared.atom_test.Kind.TheVariants.{Element, OneOf, NoneOf, NotHydrogen, Hetero, Anything}
use Rattle.mk_model.specs.declared.graph.GraphAtom.{GraphAtom}
use Rattle.mk_model.specs.Tests.{IsKindInRange, IsListOfElements, IsTestInRange}
use Rattle.mk_enum.specs.StructureTables.{atom_entries, entries_from, entry, list_entry, symbol_list, unsaturation}

-- one entry for atom x
abbrev pub one_entry : ℕ → ℤ → List Pair
one_entry x value = record { atom = pos x; value = value } ∷ []

module _ (P : Property → Type 0) where
  by_test : (b : Bool) (property : Property) → P property → All P (cond b [] (property ∷ []))
  by_test true property is = All-nil P
  by_test false property is = All-cons P property [] is (All-nil P)

  of_entry : (kind : List Pair → Property) (x : ℕ) (value : ℤ) → P (kind (one_entry x value)) → All P (entry kind x value)
  of_entry kind x value is = by_test (int_eq value (pos 0)) (kind (one_entry x value)) is

  of_list : (x : ℕ) (kind : Kind) → IsKindInRange kind → ((not : Bool) (elements : List ℕ) → IsListOfElements elements → P (symbol_list x not elements)) → All P (list_entry x kind)
  of_list x (Element z) in_range is = All-nil P
  of_list x (OneOf elements) in_range is = All-cons P (symbol_list x false elements) [] (is false elements in_range) (All-nil P)
  of_list x (NoneOf elements) in_range is = All-cons P (symbol_list x true elements) [] (is true elements in_range) (All-nil P)
  of_list x NotHydrogen in_range is = All-nil P
  of_list x Hetero in_range is = All-nil P
  of_list x Anything in_range is = All-nil P

  -- the six kinds of line of atom x
  pub record OfEach (x : ℕ) (test : AtomTest) : Type 0 where
    pub charge : P (kinds.Charge (one_entry x test.charge))
    pub radical : P (kinds.Radical (one_entry x (pos test.radical)))
    pub ring_bonds : P (kinds.RingBonds (one_entry x test.ring_bonds))
    pub substitution : P (kinds.Substitution (one_entry x test.substitution))
    pub unsaturated : P (kinds.Unsaturation (one_entry x (unsaturation test)))
    pub list : (not : Bool) (elements : List ℕ) → IsListOfElements elements → P (symbol_list x not elements)

  of_atom : (x : ℕ) (test : AtomTest) → IsTestInRange test → OfEach x test → All P (atom_entries x test)
  of_atom x test in_range each =
      let list = of_list x test.kind in_range.kind each.list in
      let fifth = All-append P (entry kinds.Unsaturation x (unsaturation test)) (list_entry x test.kind) (of_entry kinds.Unsaturation x (unsaturation test) each.unsaturated) list in
      let fourth = All-append P (entry kinds.Substitution x test.substitution) _ (of_entry kinds.Substitution x test.substitution each.substitution) fifth in
      let third = All-append P (entry kinds.RingBonds x test.ring_bonds) _ (of_entry kinds.RingBonds x test.ring_bonds each.ring_bonds) fourth in
      let second = All-append P (entry kinds.Radical x (pos test.radical)) _ (of_entry kinds.Radical x (pos test.radical) each.radical) third in
      All-append P (entry kinds.Charge x test.charge) _ (of_entry kinds.Charge x test.charge each.charge) second

  -- what holds of the lines of each atom, of which the last is atom `most`, holds of all
  pub entries_each : (most x : ℕ) (atoms : List GraphAtom) → x + length atoms ≤ most + 1 → All (λ atom. IsTestInRange atom.test) atoms
      → ((y : ℕ) (test : AtomTest) → x ≤ y → y ≤ most → IsTestInRange test → OfEach y test) → All P (entries_from x atoms)
  entries_each most x [] few in_range each = All-nil P
  entries_each most x (atom ∷ atoms) few in_range each =
      let here : IsTestInRange atom.test = in_range 0 atom (omega arith) in
      All-append P (atom_entries x atom.test) (entries_from (x + 1) atoms) (of_atom x atom.test here (each x atom.test (omega arith) (omega (arith, few)) here))
      (entries_each most (x + 1) atoms (omega (arith, few)) (λ k d below. in_range (suc k) d (omega (arith, below))) (λ y test least. each y test (omega (arith, least))))

-- ---- how many there are

one_line : (b : Bool) (property : Property) → length (cond b [] (property ∷ [])) ≤ 1
one_line true property = omega arith
one_line false property = omega arith

list_line : (x : ℕ) (kind : Kind) → length (list_entry x kind) ≤ 1
list_line x (Element z) = omega arith
list_line x (OneOf elements) = omega arith
list_line x (NoneOf elements) = omega arith
list_line x NotHydrogen = omega arith
list_line x Hetero = omega arith
list_line x Anything = omega arith

entry_line : (kind : List Pair → Property) (x : ℕ) (value : ℤ) → length (entry kind x value) ≤ 1
entry_line kind x value = one_line (int_eq value (pos 0)) (kind (one_entry x value))

both_few : (ps qs : List Property) (m : ℕ) → length ps ≤ 1 → length qs ≤ m → length (ps ++ qs) ≤ 1 + m
both_few ps qs m one few = omega (arith, one, few, length-append ps qs)

six_each : (x : ℕ) (test : AtomTest) → length (atom_entries x test) ≤ 6
six_each x test =
    let two = both_few (entry kinds.Unsaturation x (unsaturation test)) (list_entry x test.kind) 1 (entry_line kinds.Unsaturation x (unsaturation test)) (list_line x test.kind) in
    let three = both_few (entry kinds.Substitution x test.substitution) _ 2 (entry_line kinds.Substitution x test.substitution) two in
    let four = both_few (entry kinds.RingBonds x test.ring_bonds) _ 3 (entry_line kinds.RingBonds x test.ring_bonds) three in
    let five = both_few (entry kinds.Radical x (pos test.radical)) _ 4 (entry_line kinds.Radical x (pos test.radical)) four in
    both_few (entry kinds.Charge x test.charge) _ 5 (entry_line kinds.Charge x test.charge) five

-- an atom has at most six lines
pub few_entries : (x : ℕ) (atoms : List GraphAtom) → length (entries_from x atoms) ≤ 6 * length atoms
few_entries x [] = omega arith
few_entries x (atom ∷ atoms) =
    let size : length (atom ∷ atoms) ≡ suc (length atoms) = refl in
    omega (arith, size, six_each x atom.test, few_entries (x + 1) atoms, length-append (atom_entries x atom.test) (entries_from (x + 1) atoms))
