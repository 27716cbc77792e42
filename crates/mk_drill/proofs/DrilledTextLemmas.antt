-- The text of a drilled table is a file of one record, with that table.
use Rattle.std.proofs.Common.{[], ◌∷◌, ◌≡◌, ℕ, List, Some, arith, inr, refl, sym}
use Rattle.std.proofs.lemmas.List.{append-nil}
use Rattle.mk_text.specs.Lines.{lines_of}
use Rattle.mk_tables.specs.declared.raw.RawTable.{RawTable}
use Rattle.mk_spelling.specs.TableSpelling.{CanBeSpelt, table_spelling}
use Rattle.mk_spelling.proofs.TableSpellingLemmas.{is_read}
use Rattle.mk_sdfile.specs.declared.raw_record.RawRecord.{RawRecord}
use Rattle.mk_sdfile.specs.Sdfile.{IsRecord, IsSdfile}
use Rattle.mk_sdfile.proofs.SdfileLemmas.{one}
use Rattle.mk_drill.specs.Draws.{drilled_table}
use Rattle.mk_drill.specs.DrilledRecords.{IsLoadable, drilled_text, record_text}
use Rattle.mk_drill.proofs.DrilledTableLemmas.{drilled_is_fit}
use Rattle.mk_drill.proofs.DrilledChecksLemmas.{can_be_spelt, passes_all}
use Rattle.mk_drill.proofs.SizeLemmas.{record_size, spelling_size, text_size}

-- the one record of the text
abbrev pub record_of : RawTable → RawRecord
record_of table = record { table = table; text = record_text table }

-- three empty lines, and those of the table
lines_are : (table : RawTable) → lines_of (drilled_text table) ≡ [] ∷ [] ∷ [] ∷ lines_of (table_spelling table)
unfolding drilled_text lines_of
lines_are table = refl

is_record : (table : RawTable) → CanBeSpelt table → IsRecord (lines_of (drilled_text table)) (record_of table)
unfolding record_text
is_record table can = record {
  molfile_lines = lines_of (drilled_text table);
  data_lines = [];
  whole = sym (append-nil (lines_of (drilled_text table)));
  molfile = record {
    header_lines = [] ∷ [] ∷ [] ∷ [];
    table_lines = lines_of (table_spelling table);
    whole = lines_are table;
    three = refl;
    is = inr (is_read table can);
  };
  no_separator = tt;
  text = refl;
}

-- the text is a file of that record
pub is_sdfile : (table : RawTable) → CanBeSpelt table → IsSdfile (lines_of (drilled_text table)) (record_of table ∷ [])
is_sdfile table can = record {
  blocks = [];
  block_lines = [];
  last = Some (record_of table);
  last_lines = lines_of (drilled_text table);
  whole = refl;
  each = refl;
  ended = is_record table can;
  all = refl;
}

-- and of no other records
pub one_record : (table : RawTable) → CanBeSpelt table → (raws : List RawRecord) → IsSdfile (lines_of (drilled_text table)) raws → raws ≡ record_of table ∷ []
one_record table can raws is = one (lines_of (drilled_text table)) raws (record_of table ∷ []) is (is_sdfile table can)

-- ---- of drilled tables

pub drilled_is_loadable : (state : ℕ) → IsLoadable (drilled_table state)
drilled_is_loadable state =
    let table = drilled_table state in
    let is = drilled_is_fit state in
    let can = can_be_spelt table is.fit (omega (arith, is.few)) in
    let short = text_size table (spelling_size table can is.fit.no_lists is.fit.no_properties (omega (arith, is.few, is.fit.as_many))) in
    record {
      can = can;
      passes = passes_all table is.fit (omega (arith, is.few));
      short = short;
      kept_short = record_size table short;
    }
