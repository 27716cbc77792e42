-- A table that is read has no more than 999 atoms and bonds at each place.
use Rattle.std.proofs.Common.{◌≡◌, ℕ, zero, suc, ◌+◌, ◌-◌, ◌≤◌, Bool, true, false, leb, Option, Some, None, List, [], ◌∷◌, ◌++◌, length, refl, sym, ap, subst, ◌∙◌, arith}
use Rattle.std.specs.Prelude.{codes, bytes_eq}
use Rattle.std.proofs.lemmas.Bool.{leb-true}
use Rattle.std.proofs.lemmas.List.{length-append}
use Rattle.mk_text.specs.Options.{◌>>=◌, when, not_negative}
use Rattle.mk_text.proofs.ForCallers.{both_read, test_passed}
use Rattle.mk_v3000.specs.declared.word_lines.PartCounts.{PartCounts}
use Rattle.mk_v3000.specs.declared.walk.Phase.{Phase}
use Rattle.mk_v3000.specs.declared.walk.Phase.TheVariants as phase
use Rattle.mk_v3000.specs.declared.walk.Walk.{Walk}
use Rattle.mk_v3000.specs.LogicalLines.{Word}
use Rattle.mk_v3000.specs.Twin.{twin_atom, twin_bond}
use Rattle.mk_v3000.specs.V3000Table.{ends_table}
use Rattle.mk_v3000.specs.Walk.{first_walk, moved, counted, with_atom, with_bond, behind_atoms, step_at, step, IsFew}
use Rattle.mk_v3000.specs.WordLines.{with_first, number_of, count_of, counts_of_words}
use Rattle.mk_v3000.proofs.RunLemmas.{zero_test, some_test, atoms_end, atoms_one, bonds_end, bonds_one, rest_end, rest_more}
use Rattle.mk_v3000.proofs.TableLemmas.{table_begin, counts_read, atoms_begin, bonds_begin}

-- ---- counts

-- a count is no more than 999
count_few : (word : Word) (n : ℕ) → count_of word ≡ Some n → n ≤ 999
unfolding count_of
count_few word n read =
    let number = both_read (number_of word) _ n read in
    let natural = both_read (not_negative number.0) _ n number.2 in
    let passed = test_passed (leb natural.0 999) (Some natural.0) n natural.2 in
    let same : natural.0 ≡ n = (let e = passed.1 in cc) in
    let few = leb-true natural.0 999 passed.0 in
    omega (arith, same)

-- the first word and the others were read
first_read : {V : Type 0} (words : List Word) (f : Word → List Word → Option V) (v : V) → with_first words f ≡ Some v → (w : Word) × (others : List Word) × (f w others ≡ Some v)
first_read [] f v e = absurd cc
first_read (w ∷ others) f v e = (w, others, e)

-- counts are no more than 999
pub counts_few : (words : List Word) (n : PartCounts) → counts_of_words words ≡ Some n → (n.atoms ≤ 999) × (n.bonds ≤ 999)
unfolding counts_of_words
counts_few words n read =
    let name = first_read words _ n read in
    let passed = test_passed (bytes_eq name.0 (codes "COUNTS")) _ n name.2 in
    let atom_word = first_read name.1 _ n passed.1 in
    let bond_word = first_read atom_word.1 _ n atom_word.2 in
    let atoms = both_read (count_of atom_word.0) _ n bond_word.2 in
    let bonds = both_read (count_of bond_word.0) _ n atoms.2 in
    let same_atoms : atoms.0 ≡ n.atoms = (let e = bonds.2 in cc) in
    let same_bonds : bonds.0 ≡ n.bonds = (let e = bonds.2 in cc) in
    let a = count_few atom_word.0 atoms.0 atoms.1 in
    let b = count_few bond_word.0 bonds.0 bonds.1 in
    (omega (arith, same_atoms), omega (arith, same_bonds))

-- ---- each line

-- at another place there are as many
moved_few : (p : Phase) (w : Walk) → IsFew w → IsFew (moved p w)
moved_few p w few = record { atoms = few.atoms; same = few.same; bonds = few.bonds; lists = few.lists }

-- at first there are none
pub first_few : IsFew first_walk
first_few = record { atoms = omega arith; same = refl; bonds = omega arith; lists = refl }

behind_few : (k : ℕ) (w : Walk) → w.bonds ≡ k → IsFew w → IsFew (behind_atoms w)
behind_few zero w n few = subst IsFew (let e : moved phase.InRest w ≡ behind_atoms w = rw (zero_test w.bonds n) refl in e) (moved_few phase.InRest w few)
behind_few (suc k) w n few = subst IsFew (let e : moved phase.AtBonds w ≡ behind_atoms w = rw (some_test w.bonds k n) refl in e) (moved_few phase.AtBonds w few)

-- what follows a place with few has few
next_few : (x y : Walk) → Some x ≡ Some y → IsFew x → IsFew y
next_few x y e few = subst IsFew (let k : x ≡ y = cc in k) few

atoms_few : (k : ℕ) (w : Walk) (words : List Word) (x : Walk) → w.atoms ≡ k → IsFew w → step_at phase.InAtoms w words ≡ Some x → IsFew x
atoms_few zero w words x n few h = next_few (behind_atoms w) x (atoms_end w words x n h).1 (behind_few w.bonds w refl few)
atoms_few (suc k) w words x n few h =
    let one = atoms_one k w words x n h in
    let size = length-append w.indexes (one.atom.index ∷ []) in
    let more = length-append w.table.atoms (twin_atom one.atom ∷ []) in
    let before = few.atoms in
    let same = few.same in
    subst IsFew one.next (record { atoms = omega (arith, size, n); same = omega (arith, size, more); bonds = few.bonds; lists = few.lists })

bonds_few : (k : ℕ) (w : Walk) (words : List Word) (x : Walk) → w.bonds ≡ k → IsFew w → step_at phase.InBonds w words ≡ Some x → IsFew x
bonds_few zero w words x n few h = next_few (moved phase.InRest w) x (bonds_end w words x n h).1 (moved_few phase.InRest w few)
bonds_few (suc k) w words x n few h =
    let one = bonds_one k w words x n h in
    let size = length-append w.table.bonds (twin_bond w.indexes one.0 ∷ []) in
    let before = few.bonds in
    next_few (with_bond w one.0) x one.2 (record { atoms = few.atoms; same = few.same; bonds = omega (arith, size, n); lists = few.lists })

rest_few : (b : Bool) (w : Walk) (words : List Word) (x : Walk) → ends_table words ≡ b → IsFew w → step_at phase.InRest w words ≡ Some x → IsFew x
rest_few true w words x e few h = next_few (moved phase.Done w) x (sym (rest_end w words e) ∙ h) (moved_few phase.Done w few)
rest_few false w words x e few h = next_few (moved phase.InRest w) x (sym (rest_more w words e) ∙ h) (moved_few phase.InRest w few)

-- behind the end no line is due
none_due : (w : Walk) (words : List Word) (x : Walk) → step_at phase.Done w words ≡ Some x → ⊥
unfolding step_at
none_due w words x h = cc

few_at : (p : Phase) (w : Walk) (words : List Word) (x : Walk) → IsFew w → step_at p w words ≡ Some x → IsFew x
few_at phase.AtTable w words x few h = next_few (moved phase.AtCounts w) x (table_begin w words x h).1 (moved_few phase.AtCounts w few)
few_at phase.AtCounts w words x few h =
    let n = counts_read w words x h in
    let c = counts_few words n.0 n.1 in
    next_few (counted n.0) x n.2 (record { atoms = omega (arith, c.0); same = refl; bonds = omega (arith, c.1); lists = refl })
few_at phase.AtAtoms w words x few h = next_few (moved phase.InAtoms w) x (atoms_begin w words x h).1 (moved_few phase.InAtoms w few)
few_at phase.InAtoms w words x few h = atoms_few w.atoms w words x refl few h
few_at phase.AtBonds w words x few h = next_few (moved phase.InBonds w) x (bonds_begin w words x h).1 (moved_few phase.InBonds w few)
few_at phase.InBonds w words x few h = bonds_few w.bonds w words x refl few h
few_at phase.InRest w words x few h = rest_few (ends_table words) w words x refl few h
few_at phase.Done w words x few h = absurd (none_due w words x h)

-- a logical line leaves few
pub step_few : (w : Walk) (words : List Word) (x : Walk) → IsFew w → step w words ≡ Some x → IsFew x
step_few w words x few h = few_at w.phase w words x few h
