-- A drilled table is loaded: no demand refuses its text, and its record stands behind those that are held.
use Rattle.std.proofs.Common.{[], ◌∷◌, ◌++◌, ◌≡◌, ℕ, ◌+◌, ◌<◌, ◌≤◌, max, List, length, arith, refl, sym, ap, ◌∙◌, subst, Err}
use Rattle.std.specs.Prelude.{All}
use Rattle.std.specs.List.{AllByRecursion}
use Rattle.std.proofs.lemmas.List.{length-append}
use Rattle.std.proofs.lemmas.List.Elements.{All-cons, All-nil}
use Rattle.mk_outside.specs.declared.tables.Change.{Change}
use Rattle.mk_outside.specs.declared.tables.RecordRow.{RecordRow}
use Rattle.mk_outside.specs.declared.tables.Tables.{Tables}
use Rattle.mk_outside.specs.Tables.{after_batch}
use Rattle.mk_tables.specs.declared.raw.RawTable.{RawTable}
use Rattle.mk_sdfile.specs.declared.raw_record.RawRecord.{RawRecord}
use Rattle.mk_library.specs.declared.refusal.LoadRefusal.{LoadRefusal}
use Rattle.mk_library.specs.declared.refusal.LoadRefusal.TheVariants as refusal
use Rattle.mk_library.specs.Records.{text_bytes}
use Rattle.mk_library.specs.Library.{IsSame, LibraryView, record_tables, tables_of}
use Rattle.mk_library.specs.Limits.{HasKnownNumber, IsWithinLimits, most_number}
use Rattle.mk_library.specs.Edits.{AreChanges, Edit, Load, puts_from, texts_of}
use Rattle.mk_library.specs.FirstRefusal.{Demand, EditDemands, IfRefused, IsAllowedEdit, IsFirstRefusal, IsMoleculeRecord, held_number, kept_limits, molecules, one_record, sdfile, short_file}
use Rattle.mk_library.specs.Steps.{LoadKeeps}
use Rattle.mk_library.proofs.LoadLemmas.{bytes_behind, load_after, load_within}
use Rattle.mk_drill.specs.DrilledRecords.{IsCounted, IsLoadable, drilled_text, next_record, record_text}
use Rattle.mk_drill.proofs.DrilledTextLemmas.{is_sdfile, one_record as only_record, record_of}

-- ---- limits

known_below : (n : ℕ) (records : List RecordRow) → n ≤ most_number → AllByRecursion (λ (row : RecordRow). row.number < n) records → AllByRecursion HasKnownNumber records
known_below n [] known below = tt
known_below n (row ∷ records) known below = (omega (arith, below.0, known), known_below n records known below.1)

-- few records with short texts are within the limits
within : (library : LibraryView) → IsCounted library → length library.records < 10000 → IsWithinLimits library.records
within library is few = record {
  few = omega arith;
  short = omega (arith, is.short);
  numbers = known_below library.next_record library.records (omega (arith, is.counted)) is.below;
}

keeps : (library : LibraryView) (table : RawTable) → IsCounted library → length library.records < 10000 → IsLoadable table → LoadKeeps library.records library.next_record (record_text table ∷ [])
keeps library table is few fits = record {
  few = omega arith;
  short = omega (arith, is.short, fits.kept_short);
  numbers = λ i less. omega (arith, is.counted);
}

-- ---- the demands

-- the changes that the file makes
changes_are : (library : LibraryView) (table : RawTable) (changes : List Change) → IsLoadable table → AreChanges library.next_record (Load (drilled_text table)) changes
    → changes ≡ puts_from library.next_record (record_text table ∷ [])
changes_are library table changes fits are = are.2 ∙ ap (λ (raws : List RawRecord). puts_from library.next_record (texts_of raws)) (only_record table fits.can are.0 are.1)

pub demands_met : (library : LibraryView) (table : RawTable) → IsCounted library → length library.records < 10000 → IsLoadable table
    → (demand : Demand) → EditDemands library.records library.next_record (Load (drilled_text table)) demand
demands_met library table is few fits held_number = tt
demands_met library table is few fits short_file = omega (arith, fits.short)
demands_met library table is few fits sdfile = (record_of table ∷ [], is_sdfile table fits.can)
demands_met library table is few fits one_record = tt
demands_met library table is few fits molecules = λ raws read.
    subst (All IsMoleculeRecord) (sym (only_record table fits.can raws read)) (All-cons IsMoleculeRecord (record_of table) [] fits.passes (All-nil IsMoleculeRecord))
demands_met library table is few fits kept_limits = λ changes are.
    subst (λ (made : List Change). IsWithinLimits (after_batch made (tables_of library)).records) (sym (changes_are library table changes fits are))
    (load_within (record_text table ∷ []) library.next_record library.records is.below (within library is few) (keeps library table is few fits))

-- where every demand is met, no refusal is the first
none_first : (records : List RecordRow) (next : ℕ) (edit : Edit) (said : LoadRefusal) → ((demand : Demand) → EditDemands records next edit demand) → IsFirstRefusal records next edit said → ⊥
none_first records next edit said met is = is.fails (met is.demand)

-- so only want of memory refuses it
pub want_alone : (records : List RecordRow) (next : ℕ) (edit : Edit) (said : LoadRefusal) → ((demand : Demand) → EditDemands records next edit demand)
    → IfRefused {T = Unit {0}} (Err said) (IsFirstRefusal records next edit) → said ≡ refusal.Memory
want_alone records next edit refusal.NoRecord met is = absurd (none_first records next edit _ met is)
want_alone records next edit refusal.FileLarge met is = absurd (none_first records next edit _ met is)
want_alone records next edit (refusal.Layout line v3000) met is = absurd (none_first records next edit _ met is)
want_alone records next edit (refusal.NotOne count) met is = absurd (none_first records next edit _ met is)
want_alone records next edit (refusal.Meaning number check item) met is = absurd (none_first records next edit _ met is)
want_alone records next edit refusal.Full met is = absurd (none_first records next edit _ met is)
want_alone records next edit refusal.Memory met is = refl

-- ---- the record

below_behind : (n : ℕ) (text : List ℕ) (records : List RecordRow) → AllByRecursion (λ (row : RecordRow). row.number < n) records
    → AllByRecursion (λ (row : RecordRow). row.number < n + 1) (records ++ record { number = n; text = text } ∷ [])
below_behind n text [] below = (omega arith, tt)
below_behind n text (row ∷ records) below = (omega (arith, below.0), below_behind n text records below.1)

-- the tables of two libraries that hold the same are one
same_tables : (a b : LibraryView) → IsSame a b → tables_of b ≡ tables_of a
same_tables a b same = ap (λ (records : List RecordRow). record_tables records b.next_record) same.records ∙ ap (λ n. record_tables a.records n) same.next_record

-- what is held behind the change
pub record IsLoaded (before after : LibraryView) (table : RawTable) : Type 0 where
  pub records : after.records ≡ before.records ++ next_record before table ∷ []
  pub counted : IsCounted after

pub loaded : (before ready after : LibraryView) (table : RawTable) (changes : List Change) → IsCounted before → IsLoadable table
    → IsAllowedEdit before.records before.next_record (Load (drilled_text table)) changes → IsSame before ready → tables_of after ≡ after_batch changes (tables_of ready)
    → IsLoaded before after table
loaded before ready after table changes is fits allowed same made =
    let n = before.next_record in
    let row = next_record before table in
    let tables : tables_of after ≡ after_batch (puts_from n (record_text table ∷ [])) (tables_of before) =
    made ∙ ap (λ (t : Tables). after_batch changes t) (same_tables before ready same)
    ∙ ap (λ (made : List Change). after_batch made (tables_of before))
    (changes_are before table changes fits allowed.are) in
    let records : after.records ≡ before.records ++ row ∷ [] = ap (λ (t : Tables). t.records) tables ∙ load_after (record_text table ∷ []) n before.records is.below in
    let next : after.next_record ≡ n + 1 = ap (λ (t : Tables). t.next_record) tables ∙ (let most : max n (n + 1) ≡ n + 1 = omega arith in most) in
    let count : length after.records ≡ length before.records + 1 = ap length records ∙ length-append before.records (row ∷ []) in
    record {
      records = records;
      counted = record {
        counted = omega (arith, next, count, is.counted);
        below =
            subst (λ (m : ℕ). AllByRecursion (λ (x : RecordRow). x.number < m) after.records) (sym next)
            (subst (λ (rows : List RecordRow). AllByRecursion (λ (x : RecordRow). x.number < n + 1) rows) (sym records) (below_behind n (record_text table) before.records is.below));
        short = omega (arith, ap text_bytes records, bytes_behind row before.records, count, is.short, fits.kept_short);
      };
    }
