-- Stored rows, one after another.
use Rattle.std.proofs.Common.{[], ◌∷◌, ◌++◌, ◌≡◌, ◌≢◌, ℕ, zero, suc, ◌+◌, ◌<◌, ◌≤◌, true, false, List, length, take, Some, get_or, add-one, inl, inr, arith, refl, sym, ap, ◌∙◌, subst}
use Rattle.std.specs.Prelude.{slice_get}
use Rattle.std.specs.List.{AllByRecursion}
use Rattle.std.proofs.lemmas.Bool.{cases_lt, true≢false}
use Rattle.std.proofs.lemmas.List.{length-append}
use Rattle.std.proofs.lemmas.Grind.{common_steps}
use Rattle.mk_text.specs.Lines.{lines_of}
use Rattle.mk_rows.specs.declared.by_number.Numbered.{Numbered}
use Rattle.mk_rows.specs.Rows.{holds, IsLeastFrom, NoneFrom, put_in_order}
use Rattle.mk_rows.proofs.ForCallers.{none_of, put_rising}
use Rattle.mk_model.specs.Molecules.{Molecule}
use Rattle.mk_outside.specs.declared.tables.RecordRow.{RecordRow}
use Rattle.mk_sdfile.specs.declared.raw_record.RawRecord.{RawRecord}
use Rattle.mk_sdfile.specs.Sdfile.{IsBadSdfileLine, IsSdfile}
use Rattle.mk_sdfile.proofs.ForCallers.{bad_where_none, one}
use Rattle.mk_mol.specs.FirstFault.{IsFirstMoleculeFault}
use Rattle.mk_mol.proofs.ForCallers.{no_fault}
use Rattle.mk_library.specs.Records.{IsMoleculeOf, IsRecordText, records_of, text_bytes}
use Rattle.mk_library.specs.Limits.{IsWithinLimits}
use Rattle.mk_library.specs.Library.{IsKept}
use Rattle.mk_library.specs.Steps.{GoesBehind}
use Rattle.mk_library.specs.StoredRows.{AllRead, ReadBefore, Reads}
use Rattle.std.proofs.lemmas.Option.{slice_get_within}
use Rattle.mk_library.proofs.EditLemmas.{single}
use Rattle.mk_library.proofs.LoadLemmas.{behind_all, bytes_behind, known_behind}
use Rattle.mk_library.proofs.RecordsLemmas.{all_held, all_of_records, all_of_rows, all_put, bytes_put, held_put, in_order_of}

-- ---- texts that aren't those of a record

pub bad_text : (text : List ℕ) (k : ℕ) → IsBadSdfileLine (lines_of text) k → IsRecordText text → ⊥
bad_text text k bad is = (bad_where_none (lines_of text)).0 (k, bad) (is.raw ∷ []) is.read

only_same : (a b : RawRecord) → a ∷ [] ≡ b ∷ [] → a ≡ b
only_same a b h = cc

pub same_raw : (text : List ℕ) (raw : RawRecord) → IsSdfile (lines_of text) (raw ∷ []) → (is : IsRecordText text) → raw ≡ is.raw
same_raw text raw are is = only_same raw is.raw (one (lines_of text) (raw ∷ []) (is.raw ∷ []) are is.read)

pub other_text : (text : List ℕ) (raw : RawRecord) → IsSdfile (lines_of text) (raw ∷ []) → raw.text ≢ text → IsRecordText text → ⊥
other_text text raw are differs is = differs (ap (λ (r : RawRecord). r.text) (same_raw text raw are is) ∙ is.own)

pub fails_check : (text : List ℕ) (raw : RawRecord) (check item : ℕ) → IsSdfile (lines_of text) (raw ∷ []) → IsFirstMoleculeFault raw.table check item → IsRecordText text → ⊥
fails_check text raw check item are fails is =
    no_fault is.raw.table check item is.passes (subst (λ (r : RawRecord). IsFirstMoleculeFault r.table check item) (same_raw text raw are is) fails)

-- ---- a row behind all that are held

holds_first : (x : Numbered (List ℕ)) (rows : List (Numbered (List ℕ))) → holds x.number (x ∷ rows) ≡ true
holds_first x rows = grind (arith, common_steps)

first_under : (n : ℕ) (x : Numbered (List ℕ)) (rows : List (Numbered (List ℕ))) → NoneFrom n (x ∷ rows) → x.number < n
first_under n x rows none = elim (cases_lt x.number n) [
  | inl less ↦ less
  | inr le ↦ absurd (true≢false (sym (holds_first x rows) ∙ none x.number (omega (arith, le))))
]

-- where one is held from a number on, not all are below it
pub not_under : (n m : ℕ) (rows : List (Numbered (List ℕ))) → IsLeastFrom n rows m → AllByRecursion (λ (row : RecordRow). row.number < n) (records_of rows) → ⊥
not_under n m rows least under =
    let less : m < n = all_held (λ k. k < n) m rows (all_of_rows (λ k. k < n) rows under) least.held in
    omega (arith, less, least.not_below)

-- where none is held from a number on, all are below it
pub all_under : (n : ℕ) (rows : List (Numbered (List ℕ))) → NoneFrom n rows → AllByRecursion (λ (row : RecordRow). row.number < n) (records_of rows)
all_under n [] none = tt
all_under n (x ∷ rows) none = (first_under n x rows none, all_under n rows (λ m le. (none_of m x rows (none m le)).1))

new_of : (number : ℕ) (text : List ℕ) (texts : List (Numbered (List ℕ))) → AllByRecursion (λ (row : RecordRow). row.number < number) (records_of texts) → holds number texts ≡ false
new_of number text [] under = refl
new_of number text (x ∷ texts) under =
    let less : x.number < number = under.0 in
    grind (arith, common_steps, new_of number text texts under.1)

pub stored_new : (number next : ℕ) (text : List ℕ) (texts : List (Numbered (List ℕ))) → GoesBehind next (records_of texts) (record { number = number; text = text }) → holds number texts ≡ false
stored_new number next text texts place = new_of number text texts place.above

pub stored_records : (number next : ℕ) (text : List ℕ) (texts : List (Numbered (List ℕ))) → GoesBehind next (records_of texts) (record { number = number; text = text })
    → records_of (put_in_order (record { number = number; item = text }) texts) ≡ records_of texts ++ record { number = number; text = text } ∷ []
stored_records number next text texts place =
    in_order_of (record { number = number; item = text }) texts ∙ behind_all (record { number = number; text = text }) (records_of texts) place.above

pub stored_kept : (texts : List (Numbered (List ℕ))) (rows : List (Numbered Molecule)) (bytes next number : ℕ) (text : List ℕ) (mol : Molecule) → IsKept texts rows bytes next
    → GoesBehind next (records_of texts) (record { number = number; text = text }) → IsMoleculeOf text mol
    → IsKept (put_in_order (record { number = number; item = text }) texts) (put_in_order (record { number = number; item = mol }) rows) (bytes + length text) next
stored_kept texts rows bytes next number text mol kept place molecule = record {
  rising = put_rising (record { number = number; item = text }) texts kept.rising (stored_new number next text texts place);
  below_next = all_of_records (λ n. n < next) _ (all_put (λ n. n < next) (record { number = number; item = text }) texts place.below_next (all_of_rows (λ n. n < next) texts kept.below_next));
  limits = subst IsWithinLimits (sym (stored_records number next text texts place)) (record {
    few = rw length-append (let few = place.few in omega (arith, few));
    short = let bytes_are = bytes_behind (record { number = number; text = text }) (records_of texts) in let short = place.bytes in omega (arith, bytes_are, short);
    numbers = known_behind (record { number = number; text = text }) (records_of texts) place.most kept.limits.numbers;
  });
  held = held_put number text mol texts rows molecule kept.held;
  counted = let bytes_are = bytes_put (record { number = number; item = text }) texts in
      let counted : bytes ≡ text_bytes (records_of texts) = kept.counted in
      omega (arith, bytes_are, counted);
}

-- ---- all rows

take_more : (rows : List RecordRow) (i : ℕ) (row : RecordRow) → slice_get rows i ≡ Some row → take (suc i) rows ≡ take i rows ++ row ∷ []
take_more [] i row there = cc
take_more (x ∷ rows) zero row there = grind (arith, common_steps)
take_more (x ∷ rows) (suc i) row there = ap (λ (xs : List RecordRow). x ∷ xs) (take_more rows i row there)

-- the records with one more are the first rows with one more
pub records_more : (rows records more : List RecordRow) (i : ℕ) (row : RecordRow) (text : List ℕ) → records ≡ take i rows → slice_get rows i ≡ Some row → text ≡ row.text
    → more ≡ records ++ record { number = row.number; text = text } ∷ [] → more ≡ take (i + 1) rows
records_more rows records more i row text are there same is =
    let one_more : take (i + 1) rows ≡ take i rows ++ row ∷ [] = rw add-one (take_more rows i row there) in
    is ∙ ap (λ (t : List ℕ). records ++ record { number = row.number; text = t } ∷ []) same ∙ ap (λ (xs : List RecordRow). xs ++ row ∷ []) are ∙ sym one_more

some_row : (a b : RecordRow) → Some a ≡ Some b → a ≡ b
some_row a b h = cc

last_reads : (next : ℕ) (rows : List RecordRow) (i place : ℕ) (row r : RecordRow) → i ≡ place → slice_get rows i ≡ Some row → slice_get rows place ≡ Some r
    → Reads next (take i rows) row → Reads next (take place rows) r
last_reads next rows i place row r same there is reads =
    let row_same : row ≡ r = some_row row r (sym there ∙ ap (λ k. slice_get rows k) same ∙ is) in
    subst (λ k. Reads next (take k rows) r) same (subst (λ (x : RecordRow). Reads next (take i rows) x) row_same reads)

pub read_more : (next : ℕ) (rows : List RecordRow) (i : ℕ) (row : RecordRow) → ReadBefore next rows i → slice_get rows i ≡ Some row → Reads next (take i rows) row → ReadBefore next rows (i + 1)
read_more next rows i row before there reads = λ place r less is. elim (cases_lt place i) [
  | inl earlier ↦ before place r earlier is
  | inr later ↦ last_reads next rows i place row r (omega (arith, less, later)) there is reads
]

pub read_all : (next : ℕ) (rows : List RecordRow) (count : ℕ) → ReadBefore next rows count → length rows ≤ count → AllRead next rows
read_all next rows count before within = λ place row there. let less = slice_get_within rows place row there in before place row (omega (arith, less)) there

-- ---- the only record

pub raw_only : (raws shown : List RawRecord) (raw : RawRecord) → shown ≡ raws → length raws ≡ 1 → raw ≡ get_or shown 0 raw → raws ≡ raw ∷ []
raw_only raws shown raw same once is =
    let only = single raws once in
    let raw_is : raw ≡ only.0 = is ∙ ap (λ (xs : List RawRecord). get_or xs 0 raw) same ∙ ap (λ (xs : List RawRecord). get_or xs 0 raw) only.1 in
    only.1 ∙ ap (λ (r : RawRecord). r ∷ []) (sym raw_is)

pub not_only : (text : List ℕ) (raws : List RawRecord) → IsSdfile (lines_of text) raws → length raws ≢ 1 → IsRecordText text → ⊥
not_only text raws are more is = more (ap length (one (lines_of text) raws (is.raw ∷ []) are is.read))
