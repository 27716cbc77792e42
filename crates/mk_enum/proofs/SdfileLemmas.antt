-- The text of an enumeration is an SDfile.
--     are_an_sdfile     the law
use Rattle.std.proofs.Common.{◌≡◌, ℕ, None, List, [], ◌∷◌, ◌++◌, refl, sym, ap, ◌∙◌, append-nil, inr}
use Rattle.std.specs.Prelude.{codes}
use Rattle.mk_form.specs.Rows.{Series}
use Rattle.mk_text.specs.KeptLines.{kept_lines}
use Rattle.mk_text.specs.Lines.{lines_of}
use Rattle.mk_model.specs.Queries.{QueryView}
use Rattle.mk_tables.specs.declared.raw.RawTable.{RawTable}
use Rattle.mk_spelling.specs.TableSpelling.{CanBeSpelt, table_spelling}
use Rattle.mk_spelling.proofs.TableSpellingLemmas.{is_read}
use Rattle.mk_sdfile.specs.declared.raw_record.RawRecord.{RawRecord}
use Rattle.mk_sdfile.specs.Sdfile.{IsRecordBlock}
use Rattle.mk_enum.specs.Enumerations.{AreTextsOf, IsTextOf}
use Rattle.mk_enum.specs.Laws.{AreRecordsOf, StructuresAreAnSdfile}
use Rattle.mk_enum.specs.Texts.{structure_text}
use Rattle.mk_enum.proofs.LineLemmas.{header_lines, record_lines, structure_behind}
use Rattle.mk_enum.proofs.SpeltLemmas.{can_be_spelt}

-- the record of a structure
abbrev record_of : List ℕ → RawTable → RawRecord
record_of code table = record { table = table; text = kept_lines (header_lines code ++ lines_of (table_spelling table)) }

-- the lines of its text are that record and its separator
is_block : (code : List ℕ) (table : RawTable) → CanBeSpelt table → IsRecordBlock (lines_of (structure_text code table)) (record_of code table)
is_block code table can = record {
  record_lines = header_lines code ++ lines_of (table_spelling table);
  separator = codes "$$$$";
  whole = record_lines code table;
  is = record {
    molfile_lines = header_lines code ++ lines_of (table_spelling table);
    data_lines = [];
    whole = sym (append-nil (header_lines code ++ lines_of (table_spelling table)));
    molfile = record { header_lines = header_lines code; table_lines = lines_of (table_spelling table); whole = refl; three = refl; is = inr (is_read table can) };
    no_separator = tt;
    text = refl;
  };
  separates = refl;
}

-- the table of a structure can be spelt
spelt : (query : QueryView) (code text : List ℕ) (of : IsTextOf query code text) → CanBeSpelt of.table
spelt query code text of = can_be_spelt of.structure.graph of.structure.expanded.kept of.structure.writable of.table of.drawn

-- the records of some structures
pub record HasRecords (query : QueryView) (list : List (List ℕ)) (text : List ℕ) : Type 0 where
  pub records : List RawRecord
  pub each : Series IsRecordBlock (lines_of text) records
  pub are : AreRecordsOf query list records

no_line : (text : List ℕ) → text ≡ [] → lines_of text ≡ []
unfolding lines_of
no_line text none = ap lines_of none

have_records : (query : QueryView) (list : List (List ℕ)) (text : List ℕ) → AreTextsOf query list text → HasRecords query list text
have_records query [] text none = record { records = []; each = no_line text none; are = tt }
have_records query (code ∷ list) text (front, back, whole, of, others) =
    let rest = have_records query list back others in
    let first : lines_of front ≡ lines_of (structure_text code of.table) = ap lines_of of.is in
    let both : lines_of text ≡ lines_of (structure_text code of.table) ++ lines_of back =
    ap lines_of (whole ∙ ap (λ (t : List ℕ). t ++ back) of.is) ∙ structure_behind code of.table back in
    record {
      records = record_of code of.table ∷ rest.records;
      each = (lines_of (structure_text code of.table), lines_of back, both, is_block code of.table (spelt query code front of), rest.each);
      are = (record { structure = of.structure; drawn = of.drawn }, rest.are);
    }

pub are_an_sdfile : StructuresAreAnSdfile
are_an_sdfile query place limit found is =
    let has = have_records query found.codes found.text is.texts in (
      has.records,
      record {
        blocks = has.records;
        block_lines = lines_of found.text;
        last = None;
        last_lines = [];
        whole = sym (append-nil (lines_of found.text));
        each = has.each;
        ended = tt;
        all = sym (append-nil has.records);
      },
      has.are,
    )
