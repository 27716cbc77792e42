-- Records added under the numbers from the next one on.
use Rattle.std.proofs.Common.{[], ◌∷◌, ◌++◌, ◌≡◌, ℕ, zero, suc, ◌+◌, ◌<◌, ◌≤◌, max, false, List, length, nat_eq, All, arith, refl, sym, ap, ◌∙◌, subst, length-append, inr}
use Rattle.std.specs.List.{AllByRecursion, list_any}
use Rattle.std.proofs.lemmas.List.{append-nil, append_assoc, length-map}
use Rattle.std.proofs.lemmas.List.Elements.{All-head, All-tail}
use Rattle.std.proofs.lemmas.Grind.{common_steps}
use Rattle.mk_model.specs.Molecules.{IsMolecule, Molecule}
use Rattle.mk_outside.specs.declared.tables.RecordRow.{RecordRow}
use Rattle.mk_outside.specs.declared.tables.Change.TheVariants.{PutRecord}
use Rattle.mk_outside.specs.Rows.{put, in_order}
use Rattle.mk_outside.specs.Store.{record_puts}
use Rattle.mk_outside.specs.Tables.{after_batch, after_change, record_number}
use Rattle.mk_sdfile.specs.declared.raw_record.RawRecord.{RawRecord}
use Rattle.mk_sdfile.specs.Sdfile.{IsSdfile}
use Rattle.mk_sdfile.proofs.ForCallers.{text_is_its_record}
use Rattle.mk_text.specs.Lines.{lines_of}
use Rattle.mk_tables.specs.KeptTables.{KeepsItsText}
use Rattle.mk_mol.specs.FirstFault.{MeetsAllChecks, known_atoms, known_properties}
use Rattle.mk_mol.specs.Filled.{IsFilled}
use Rattle.mk_mol.proofs.ForCallers.{keeps_text}
use Rattle.mk_library.specs.Records.{IsMoleculeOf, text_bytes}
use Rattle.mk_library.specs.Limits.{HasKnownNumber, IsWithinLimits, most_number, most_records}
use Rattle.mk_library.specs.Library.{record_tables}
use Rattle.mk_library.specs.Edits.{puts_from, texts_of}
use Rattle.mk_library.specs.Pending.{ArePrepared, InTurn, IsNumbered, KeepsLimits}
use Rattle.mk_library.specs.Steps.{AreMolecules, LoadKeeps, bytes_of}

-- ---- one record behind all

none_there : (n : ℕ) (records : List RecordRow) → AllByRecursion (λ (row : RecordRow). row.number < n) records → list_any (λ (row : RecordRow). nat_eq row.number n) records ≡ false
none_there n [] below = refl
none_there n (x ∷ records) below =
    let less : x.number < n = below.0 in
    grind (arith, common_steps, none_there n records below.1)

pub behind_all : (row : RecordRow) (records : List RecordRow) → AllByRecursion (λ (x : RecordRow). x.number < row.number) records → in_order record_number row records ≡ records ++ row ∷ []
behind_all row [] below = refl
behind_all row (x ∷ records) below =
    let less : x.number < row.number = below.0 in
    grind (arith, common_steps, behind_all row records below.1)

put_behind : (row : RecordRow) (records : List RecordRow) → AllByRecursion (λ (x : RecordRow). x.number < row.number) records → put record_number row records ≡ records ++ row ∷ []
unfolding put
put_behind row records below = rw (none_there row.number records below) (behind_all row records below)

-- the tables behind a record that is put under the next number
pub change_behind : (n : ℕ) (text : List ℕ) (records : List RecordRow) → AllByRecursion (λ (x : RecordRow). x.number < n) records
    → after_change (PutRecord n text) (record_tables records n) ≡ record_tables (records ++ record { number = n; text = text } ∷ []) (n + 1)
change_behind n text records below =
    let next : max n (n + 1) ≡ n + 1 = omega arith in
    ap (λ (xs : List RecordRow). record_tables xs (max n (n + 1))) (put_behind (record { number = n; text = text }) records below)
    ∙ ap (λ m. record_tables (records ++ record { number = n; text = text } ∷ []) m) next

pub below_behind : (n : ℕ) (text : List ℕ) (records : List RecordRow) → AllByRecursion (λ (x : RecordRow). x.number < n) records
    → AllByRecursion (λ (x : RecordRow). x.number < n + 1) (records ++ record { number = n; text = text } ∷ [])
below_behind n text [] below = (omega arith, tt)
below_behind n text (x ∷ records) below = (omega (arith, below.0), below_behind n text records below.1)

pub bytes_behind : (row : RecordRow) (records : List RecordRow) → text_bytes (records ++ row ∷ []) ≡ text_bytes records + length row.text
bytes_behind row [] = omega arith
bytes_behind row (x ∷ records) = let rest = bytes_behind row records in omega (arith, rest)

pub known_behind : (row : RecordRow) (records : List RecordRow) → row.number ≤ most_number → AllByRecursion HasKnownNumber records → AllByRecursion HasKnownNumber (records ++ row ∷ [])
known_behind row [] known h = (known, tt)
known_behind row (x ∷ records) known h = (h.0, known_behind row records known h.1)

-- ---- all of them

-- the rows of texts under the numbers from n on
abbrev pub rows_from : ℕ → List (List ℕ) → List RecordRow
rows_from n [] = []
rows_from n (text ∷ texts) = record { number = n; text = text } ∷ rows_from (n + 1) texts

pub load_after : (texts : List (List ℕ)) (n : ℕ) (records : List RecordRow) → AllByRecursion (λ (x : RecordRow). x.number < n) records
    → (after_batch (puts_from n texts) (record_tables records n)).records ≡ records ++ rows_from n texts
load_after [] n records below = sym (append-nil records)
load_after (text ∷ texts) n records below =
    let rest = load_after texts (n + 1) (records ++ record { number = n; text = text } ∷ []) (below_behind n text records below) in
    ap (λ t. (after_batch (puts_from (n + 1) texts) t).records) (change_behind n text records below) ∙ rest
    ∙ append_assoc records (record { number = n; text = text } ∷ []) (rows_from (n + 1) texts)

first_known : (records : List RecordRow) (texts : List (List ℕ)) (n : ℕ) (text : List ℕ) → IsWithinLimits records → LoadKeeps records n (text ∷ texts)
    → IsWithinLimits (records ++ record { number = n; text = text } ∷ [])
first_known records texts n text limits keeps = record {
  few = rw length-append (omega (arith, keeps.few));
  short = let bytes = bytes_behind (record { number = n; text = text }) records in omega (arith, bytes, keeps.short);
  numbers = let known = keeps.numbers 0 (omega arith) in known_behind (record { number = n; text = text }) records (omega (arith, known)) limits.numbers;
}

pub others_keep : (records : List RecordRow) (texts : List (List ℕ)) (n : ℕ) (text : List ℕ) → LoadKeeps records n (text ∷ texts)
    → LoadKeeps (records ++ record { number = n; text = text } ∷ []) (n + 1) texts
others_keep records texts n text keeps = record {
  few = rw length-append (omega (arith, keeps.few));
  short = let bytes = bytes_behind (record { number = n; text = text }) records in omega (arith, bytes, keeps.short);
  numbers = λ i less. let known = keeps.numbers (i + 1) (omega (arith, less)) in omega (arith, known);
}

pub load_numbered : (texts : List (List ℕ)) (n : ℕ) (records : List RecordRow) → AllByRecursion (λ (x : RecordRow). x.number < n) records
    → InTurn IsNumbered (puts_from n texts) (record_tables records n)
load_numbered [] n records below = tt
load_numbered (text ∷ texts) n records below = (
  inr refl,
  subst (InTurn IsNumbered (puts_from (n + 1) texts)) (sym (change_behind n text records below))
      (load_numbered texts (n + 1) (records ++ record { number = n; text = text } ∷ []) (below_behind n text records below)),
)

pub load_limits : (texts : List (List ℕ)) (n : ℕ) (records : List RecordRow) → AllByRecursion (λ (x : RecordRow). x.number < n) records → IsWithinLimits records → LoadKeeps records n texts
    → InTurn KeepsLimits (puts_from n texts) (record_tables records n)
load_limits [] n records below limits keeps = tt
load_limits (text ∷ texts) n records below limits keeps =
    let first = first_known records texts n text limits keeps in (
      subst (λ t. IsWithinLimits t.records) (sym (change_behind n text records below)) first,
      subst (InTurn KeepsLimits (puts_from (n + 1) texts)) (sym (change_behind n text records below))
          (load_limits texts (n + 1) (records ++ record { number = n; text = text } ∷ []) (below_behind n text records below) first (others_keep records texts n text keeps)),
    )

-- all of them together are within the limits
pub load_within : (texts : List (List ℕ)) (n : ℕ) (records : List RecordRow) → AllByRecursion (λ (x : RecordRow). x.number < n) records → IsWithinLimits records → LoadKeeps records n texts
    → IsWithinLimits (after_batch (puts_from n texts) (record_tables records n)).records
load_within [] n records below limits keeps = limits
load_within (text ∷ texts) n records below limits keeps =
    subst (λ t. IsWithinLimits (after_batch (puts_from (n + 1) texts) t).records) (sym (change_behind n text records below))
    (load_within texts (n + 1) (records ++ record { number = n; text = text } ∷ []) (below_behind n text records below)
    (first_known records texts n text limits keeps) (others_keep records texts n text keeps))

-- and where they are, the limits are kept
count_from : (n : ℕ) (texts : List (List ℕ)) → length (rows_from n texts) ≡ length texts
count_from n [] = refl
count_from n (text ∷ texts) = ap suc (count_from (n + 1) texts)

bytes_from : (records : List RecordRow) (n : ℕ) (texts : List (List ℕ)) → text_bytes (records ++ rows_from n texts) ≡ text_bytes records + bytes_of texts
bytes_from [] n [] = refl
bytes_from [] n (text ∷ texts) = let rest = bytes_from [] (n + 1) texts in omega (arith, rest)
bytes_from (x ∷ records) n texts = let rest = bytes_from records n texts in omega (arith, rest)

known_from : (records : List RecordRow) (n : ℕ) (texts : List (List ℕ)) → AllByRecursion HasKnownNumber (records ++ rows_from n texts) → (i : ℕ) → i < length texts → n + i ≤ most_number
known_from (x ∷ records) n texts h i less = known_from records n texts h.1 i less
known_from [] n [] h i less = absurd (omega arith)
known_from [] n (text ∷ texts) h zero less = omega (arith, h.0)
known_from [] n (text ∷ texts) h (suc i) less = let known = known_from [] (n + 1) texts h.1 i (omega arith) in omega (arith, known)

pub within_keeps : (texts : List (List ℕ)) (n : ℕ) (records : List RecordRow) → AllByRecursion (λ (x : RecordRow). x.number < n) records
    → IsWithinLimits (after_batch (puts_from n texts) (record_tables records n)).records → LoadKeeps records n texts
within_keeps texts n records below limits =
    let within : IsWithinLimits (records ++ rows_from n texts) = subst IsWithinLimits (load_after texts n records below) limits in
    record {
      few = let few : length records + length (rows_from n texts) ≤ most_records = rw length-append at within.few in omega (arith, count_from n texts, few);
      short = let short = within.short in omega (arith, bytes_from records n texts, short);
      numbers = known_from records n texts within.numbers;
    }

-- ---- their molecules

-- the text of a record that passes is its own, and the molecule of its table is that of the text
pub is_molecule : (raw : RawRecord) (mol : Molecule) → MeetsAllChecks raw.table → IsFilled raw.table mol → IsMolecule mol
    → (KeepsItsText raw.table → IsSdfile (lines_of raw.text) (raw ∷ [])) → IsMoleculeOf raw.text mol
is_molecule raw mol passes filled kept again = record {
  is = record {
    raw = raw;
    read = again (keeps_text raw.table (passes known_atoms) (passes known_properties)).0;
    own = refl;
    passes = passes;
  };
  filled = filled;
  kept = kept;
}

pub load_prepared : (raws : List RawRecord) (mols : List Molecule) (n : ℕ) → AreMolecules raws mols → ((i : ℕ) → i < length raws → n + i ≤ most_number)
    → All (λ (r : RawRecord). KeepsItsText r.table → IsSdfile (lines_of r.text) (r ∷ [])) raws → ArePrepared (puts_from n (texts_of raws)) mols
load_prepared [] [] n are known again = tt
load_prepared [] (mol ∷ mols) n are known again = absurd are
load_prepared (raw ∷ raws) [] n are known again = absurd are
load_prepared (raw ∷ raws) (mol ∷ mols) n are known again =
    let first = known 0 (omega arith) in (
      omega (arith, first),
      is_molecule raw mol are.0 are.1 are.2 (All-head (λ (r : RawRecord). KeepsItsText r.table → IsSdfile (lines_of r.text) (r ∷ [])) raw raws again),
      load_prepared raws mols (n + 1) are.3 (λ i less. let known = known (i + 1) (omega (arith, less)) in omega (arith, known))
          (All-tail (λ (r : RawRecord). KeepsItsText r.table → IsSdfile (lines_of r.text) (r ∷ [])) raw raws again),
    )

-- the molecules of the records of a file
pub file_prepared : (text : List ℕ) (raws : List RawRecord) (mols : List Molecule) (n : ℕ) → IsSdfile (lines_of text) raws → AreMolecules raws mols
    → ((i : ℕ) → i < length (texts_of raws) → n + i ≤ most_number) → ArePrepared (puts_from n (texts_of raws)) mols
file_prepared text raws mols n is are known =
    load_prepared raws mols n are (λ i less. known i (rw length-map less)) (text_is_its_record text raws is)

pub puts_counted : (texts : List (List ℕ)) (n : ℕ) → record_puts (puts_from n texts) ≡ length texts
puts_counted [] n = refl
puts_counted (text ∷ texts) n = let rest = puts_counted texts (n + 1) in omega (arith, rest)
