-- Rows that read after an edit that is allowed.
--     edits_of_records, edits_keep_reading      the two laws
use Rattle.std.proofs.Common.{[], ◌∷◌, ◌≡◌, ℕ, ◌+◌, ◌<◌, ◌≤◌, max, List, length, All, arith, refl, sym, subst}
use Rattle.std.specs.List.{AllByRecursion}
use Rattle.std.proofs.lemmas.List.Elements.{All-cons, All-head, All-tail}
use Rattle.mk_text.specs.Lines.{lines_of}
use Rattle.mk_outside.specs.declared.tables.Change.{Change}
use Rattle.mk_outside.specs.declared.tables.Change.TheVariants.{PutRecord, DropRecord}
use Rattle.mk_outside.specs.declared.tables.RecordRow.{RecordRow}
use Rattle.mk_outside.specs.declared.tables.Tables.{Tables}
use Rattle.mk_outside.specs.Rows.{put}
use Rattle.mk_outside.specs.Tables.{after_batch, record_number}
use Rattle.mk_sdfile.specs.declared.raw_record.RawRecord.{RawRecord}
use Rattle.mk_sdfile.specs.Sdfile.{IsSdfile}
use Rattle.mk_sdfile.proofs.SdfileTextLemmas.{text_is_its_record}
use Rattle.mk_tables.specs.KeptTables.{KeepsItsText}
use Rattle.mk_mol.specs.FirstFault.{known_atoms, known_properties}
use Rattle.mk_mol.proofs.LawLemmas.{keeps_text}
use Rattle.mk_library.specs.Limits.{IsWithinLimits, file_bytes}
use Rattle.mk_library.specs.Library.{record_tables}
use Rattle.mk_library.specs.Edits.{Edit, Load, Remove, Replace, puts_from, texts_of}
use Rattle.mk_library.specs.FirstRefusal.{IsAllowedEdit, IsMoleculeRecord, held_number, kept_limits, molecules, short_file}
use Rattle.mk_library.specs.Pending.{IsOfRecords}
use Rattle.mk_library.specs.EditedRows.{EditsAreOfRecords, EditsKeepReading, ReadOn}
use Rattle.mk_library.proofs.LoadLemmas.{within_keeps}
use Rattle.mk_library.proofs.PendingLemmas.{records_alone}
use Rattle.mk_library.proofs.TextLengthLemmas.{lines_short, records_are_short}
use Rattle.mk_library.proofs.GoodRowsLemmas.{AreGood, IsGoodText, each_below, good_loaded, good_of, good_replaced, good_without, held_number_is, read_of}

-- ---- the texts of a file

good_text : (raw : RawRecord) → length raw.text ≤ file_bytes + 1 → IsMoleculeRecord raw → (KeepsItsText raw.table → IsSdfile (lines_of raw.text) (raw ∷ [])) → IsGoodText raw.text
good_text raw short passes again = record {
  short = short;
  is = record { raw = raw; read = again (keeps_text raw.table (passes known_atoms) (passes known_properties)).0; own = refl; passes = passes };
}

good_texts : (raws : List RawRecord) → AllByRecursion (λ (raw : RawRecord). length raw.text ≤ file_bytes + 1) raws → All IsMoleculeRecord raws
    → All (λ (r : RawRecord). KeepsItsText r.table → IsSdfile (lines_of r.text) (r ∷ [])) raws → AllByRecursion IsGoodText (texts_of raws)
good_texts [] short pass again = tt
good_texts (raw ∷ raws) short pass again = (
  good_text raw short.0 (All-head IsMoleculeRecord raw raws pass) (All-head (λ (r : RawRecord). KeepsItsText r.table → IsSdfile (lines_of r.text) (r ∷ [])) raw raws again),
  good_texts raws short.1 (All-tail IsMoleculeRecord raw raws pass) (All-tail (λ (r : RawRecord). KeepsItsText r.table → IsSdfile (lines_of r.text) (r ∷ [])) raw raws again),
)

file_texts : (text : List ℕ) (raws : List RawRecord) → length text ≤ file_bytes → IsSdfile (lines_of text) raws → All IsMoleculeRecord raws → AllByRecursion IsGoodText (texts_of raws)
file_texts text raws short is pass =
    let lines = lines_short text in
    good_texts raws (records_are_short (file_bytes + 1) (lines_of text) raws is (omega (arith, lines, short))) pass (text_is_its_record text raws is)

-- ---- edits

none_left : (P : Change → Type 0) → All P []
none_left P = λ k d below. absurd (omega arith)

puts_of_records : (texts : List (List ℕ)) (n : ℕ) → All IsOfRecords (puts_from n texts)
puts_of_records [] n = none_left IsOfRecords
puts_of_records (text ∷ texts) n = All-cons IsOfRecords (PutRecord n text) (puts_from (n + 1) texts) tt (puts_of_records texts (n + 1))

pub edits_of_records : EditsAreOfRecords
edits_of_records records next (Load text) changes allowed =
    let (raws, is, same) = allowed.are in subst (All IsOfRecords) (sym same) (puts_of_records (texts_of raws) next)
edits_of_records records next (Replace number text) changes allowed =
    let (raw, is, same) = allowed.are in subst (All IsOfRecords) (sym same) (All-cons IsOfRecords (PutRecord number raw.text) [] tt (none_left IsOfRecords))
edits_of_records records next (Remove number) changes allowed =
    subst (All IsOfRecords) (sym allowed.are) (All-cons IsOfRecords (DropRecord number) [] tt (none_left IsOfRecords))

-- what is known of the records and their next number, as tables
abbrev GoOn : Tables → Type 0
GoOn t = AreGood t.next_record t.records × (1 ≤ t.next_record)

good_edited : (records : List RecordRow) (next : ℕ) (edit : Edit) (changes : List Change) → AreGood next records → 1 ≤ next → IsAllowedEdit records next edit changes
    → GoOn (after_batch changes (record_tables records next))
good_edited records next (Load text) changes good least allowed =
    let (raws, is, same) = allowed.are in
    let limits : IsWithinLimits (after_batch (puts_from next (texts_of raws)) (record_tables records next)).records =
    subst (λ (cs : List Change). IsWithinLimits (after_batch cs (record_tables records next)).records) same (allowed.met kept_limits changes allowed.are) in
    subst (λ (cs : List Change). GoOn (after_batch cs (record_tables records next))) (sym same)
    (good_loaded (texts_of raws) next records least good (file_texts text raws (allowed.met short_file) is (allowed.met molecules raws is))
    (within_keeps (texts_of raws) next records (each_below next records good.each) limits))
good_edited records next (Replace number text) changes good least allowed =
    let (raw, is, same) = allowed.are in
    let limits : IsWithinLimits (put record_number (record { number = number; text = raw.text }) records) =
    subst (λ (cs : List Change). IsWithinLimits (after_batch cs (record_tables records next)).records) same (allowed.met kept_limits changes allowed.are) in
    let below : number < next = held_number_is (λ m. m < next) number records (each_below next records good.each) (allowed.met held_number) in
    let still : next ≡ max next (number + 1) = omega (arith, below) in
    let texts = file_texts text (raw ∷ []) (allowed.met short_file) is (allowed.met molecules (raw ∷ []) is) in
    subst (λ (cs : List Change). GoOn (after_batch cs (record_tables records next))) (sym same)
    (subst (λ m. AreGood m (put record_number (record { number = number; text = raw.text }) records) × (1 ≤ m)) still
    (good_replaced next number raw.text records good (allowed.met held_number) texts.0 limits, least))
good_edited records next (Remove number) changes good least allowed =
    subst (λ (cs : List Change). GoOn (after_batch cs (record_tables records next))) (sym allowed.are) (good_without next number records good, least)

pub edits_keep_reading : EditsKeepReading
edits_keep_reading t edit changes on allowed =
    let whole = records_alone changes t (edits_of_records t.records t.next_record edit changes allowed) in
    let after = good_edited t.records t.next_record edit changes (good_of t.next_record t.records on.read) on.least allowed in
    subst (λ (u : Tables). ReadOn u.next_record u.records) (sym whole)
    (record { read = read_of _ _ after.0; least = after.1 })
