-- A library built anew: each of its rows goes behind those before it, its text reads, and the molecules are the same.
use Rattle.std.proofs.Common.{[], ◌∷◌, ◌≡◌, ℕ, zero, suc, ◌+◌, ◌<◌, ◌≤◌, List, length, take, Some, get_or, arith, refl, sym, ap, ◌∙◌, subst}
use Rattle.std.specs.Prelude.{slice_get}
use Rattle.std.specs.List.{AllByRecursion}
use Rattle.std.proofs.lemmas.List.{length-map}
use Rattle.std.proofs.lemmas.Option.{slice_get_read}
use Rattle.std.proofs.lemmas.Grind.{common_steps}
use Rattle.mk_rows.specs.declared.by_number.Numbered.{Numbered}
use Rattle.mk_model.specs.Molecules.{Molecule}
use Rattle.mk_outside.specs.declared.tables.RecordRow.{RecordRow}
use Rattle.mk_sdfile.specs.declared.raw_record.RawRecord.{RawRecord}
use Rattle.mk_mol.specs.Filled.{IsFilled}
use Rattle.mk_mol.specs.Laws.{OneFilledMolecule}
use Rattle.mk_library.specs.Records.{AreHeld, AreRising, IsMoleculeOf, IsRecordText, record_of, records_of, text_bytes}
use Rattle.mk_library.specs.Limits.{HasKnownNumber, most_bytes}
use Rattle.mk_library.specs.Library.{IsLibrary, LibraryView}
use Rattle.mk_library.specs.Steps.{GoesBehind}
use Rattle.mk_library.proofs.StoredLemmas.{same_raw}

-- ---- a row in its place

-- what each has, the one at a place has
there : (P : RecordRow → Type 0) (records : List RecordRow) (i : ℕ) (row : RecordRow) → slice_get records i ≡ Some row → AllByRecursion P records → P row
there P [] i row is each = cc
there P (x ∷ records) zero row is each = subst P (some_row x row is) each.0
  where
    some_row : (a b : RecordRow) → Some a ≡ Some b → a ≡ b
    some_row a b h = cc
there P (x ∷ records) (suc i) row is each = there P records i row is each.1

-- those before a place are below the one that stands there
all_before : (records : List RecordRow) (i : ℕ) (row : RecordRow) → slice_get records i ≡ Some row → AreRising records
    → AllByRecursion (λ (earlier : RecordRow). earlier.number < row.number) (take i records)
all_before [] i row is rising = cc
all_before (x ∷ records) zero row is rising = tt
all_before (x ∷ records) (suc i) row is rising =
    (there (λ (later : RecordRow). x.number < later.number) records i row is rising.0, all_before records i row is rising.1)

-- the bytes of those before a place and of the one there are among all
bytes_before : (records : List RecordRow) (i : ℕ) (row : RecordRow) → slice_get records i ≡ Some row → text_bytes (take i records) + length row.text ≤ text_bytes records
bytes_before [] i row is = cc
bytes_before (x ∷ records) zero row is = grind (arith, common_steps)
bytes_before (x ∷ records) (suc i) row is = let rest = bytes_before records i row is in omega (arith, rest)

few_before : (records : List RecordRow) (i : ℕ) (row : RecordRow) → slice_get records i ≡ Some row → length (take i records) < length records
few_before [] i row is = cc
few_before (x ∷ records) zero row is = omega arith
few_before (x ∷ records) (suc i) row is = let rest = few_before records i row is in omega (arith, rest)

-- each row of a library goes behind those before it
pub again_behind : (library : LibraryView) (i : ℕ) (row : RecordRow) → IsLibrary library → slice_get library.records i ≡ Some row
    → GoesBehind library.next_record (take i library.records) row
again_behind library i row kept is = record {
  most = there HasKnownNumber library.records i row is kept.limits.numbers;
  above = all_before library.records i row is kept.rising;
  below_next = there (λ (x : RecordRow). x.number < library.next_record) library.records i row is kept.below_next;
  few = let few = few_before library.records i row is in omega (arith, few, kept.limits.few);
  bytes = let bytes = bytes_before library.records i row is in omega (arith, bytes, kept.limits.short);
}

-- its text is short
pub text_short : (library : LibraryView) (i : ℕ) (row : RecordRow) → IsLibrary library → slice_get library.records i ≡ Some row → length row.text ≤ most_bytes
text_short library i row kept is = let bytes = bytes_before library.records i row is in omega (arith, bytes, kept.limits.short)

-- and is that of a record
text_at : (records : List RecordRow) (rows : List (Numbered Molecule)) (i : ℕ) (row : RecordRow) → slice_get records i ≡ Some row → AreHeld records rows → IsRecordText row.text
text_at [] rows i row is held = cc
text_at (x ∷ records) [] i row is held = absurd held
text_at (x ∷ records) (y ∷ rows) zero row is held = subst (λ (r : RecordRow). IsRecordText r.text) (some_row x row is) held.1.is
  where
    some_row : (a b : RecordRow) → Some a ≡ Some b → a ≡ b
    some_row a b h = cc
text_at (x ∷ records) (y ∷ rows) (suc i) row is held = text_at records rows i row is held.2

pub text_again : (library : LibraryView) (i : ℕ) (row : RecordRow) → IsLibrary library → slice_get library.records i ≡ Some row → IsRecordText row.text
text_again library i row kept is = text_at library.records library.rows i row is kept.held

-- a text at a place as a record row
row_there : (texts : List (Numbered (List ℕ))) (i : ℕ) (row : Numbered (List ℕ)) → slice_get texts i ≡ Some row → slice_get (records_of texts) i ≡ Some (record_of row)
row_there [] i row is = cc
row_there (x ∷ texts) zero row is = grind (arith, common_steps)
row_there (x ∷ texts) (suc i) row is = row_there texts i row is

-- the record at the place of a text
pub row_at : (records : List RecordRow) (texts : List (Numbered (List ℕ))) (i : ℕ) (row : Numbered (List ℕ)) → records_of texts ≡ records → i < length texts
    → row ≡ get_or texts i row → slice_get records i ≡ Some (record_of row)
row_at records texts i row are within is =
    subst (λ (xs : List RecordRow). slice_get xs i ≡ Some (record_of row)) are (row_there texts i row (slice_get_read texts (length texts) i row refl within is))

all_taken : (records : List RecordRow) (i : ℕ) → length records ≤ i → take i records ≡ records
all_taken [] zero within = refl
all_taken [] (suc i) within = refl
all_taken (x ∷ records) zero within = absurd (omega arith)
all_taken (x ∷ records) (suc i) within = ap (λ (xs : List RecordRow). x ∷ xs) (all_taken records i (omega (arith, within)))

-- all records are there behind the last text
pub all_again : (records now : List RecordRow) (texts : List (Numbered (List ℕ))) (i : ℕ) → records_of texts ≡ records → now ≡ take i records → length texts ≤ i → now ≡ records
all_again records now texts i are is within =
    let size : length records ≡ length texts = ap length (sym are) ∙ length-map texts record_of in
    is ∙ all_taken records i (omega (arith, size, within))

-- ---- the same molecules

-- a text has one molecule, where a table has one filled molecule
one_molecule : OneFilledMolecule → (text : List ℕ) (a b : Molecule) → IsMoleculeOf text a → IsMoleculeOf text b → a ≡ b
one_molecule one text a b p q =
    one p.is.raw.table a b p.kept q.kept p.filled (subst (λ (r : RawRecord). IsFilled r.table b) (sym (same_raw text p.is.raw p.is.read q.is)) q.filled)

same_row : (x y : Numbered Molecule) → x.number ≡ y.number → x.item ≡ y.item → x ≡ y
same_row x y number item =
    ap (λ n. record { number = n; item = x.item }) number ∙ ap (λ (mol : Molecule). record { number = y.number; item = mol }) item

-- records have one list of molecules beside them
pub same_rows : OneFilledMolecule → (records : List RecordRow) (a b : List (Numbered Molecule)) → AreHeld records a → AreHeld records b → a ≡ b
same_rows one [] [] [] p q = refl
same_rows one [] [] (y ∷ b) p q = absurd q
same_rows one [] (x ∷ a) b p q = absurd p
same_rows one (r ∷ records) [] b p q = absurd p
same_rows one (r ∷ records) (x ∷ a) [] p q = absurd q
same_rows one (r ∷ records) (x ∷ a) (y ∷ b) p q =
    let number : x.number ≡ y.number = sym p.0 ∙ q.0 in
    let item : x.item ≡ y.item = one_molecule one r.text x.item y.item p.1 q.1 in
    let rest : a ≡ b = same_rows one records a b p.2 q.2 in
    ap (λ (row : Numbered Molecule). row ∷ a) (same_row x y number item) ∙ ap (λ (others : List (Numbered Molecule)). y ∷ others) rest
