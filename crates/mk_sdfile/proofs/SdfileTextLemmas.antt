-- The text of a record is an SDfile of that one record.
use Rattle.std.proofs.Common.{◌≡◌, ℕ, zero, suc, ◌-◌, Bool, true, false, eqb, All, Some, List, [], ◌∷◌, length, take, map, refl, sym, ap, subst, ◌∙◌, inl, inr}
use Rattle.std.specs.List.{AllByRecursion, starts_with, suffix_len}
use Rattle.std.specs.Prelude.{Contains, codes, nat_eq}
use Rattle.std.proofs.lemmas.List.{length-map, map-append}
use Rattle.std.proofs.lemmas.List.Elements.{All-from_recursion, recursion_from_All}
use Rattle.mk_form.specs.ToEnd.{EachIs}
use Rattle.mk_text.specs.KeptLines.{is_cr, without_crs, kept_lines}
use Rattle.mk_text.specs.Lines.{lines_of}
use Rattle.mk_text.proofs.ForCallers.{both, kept_lines_are_read, kept_lines_stay, lines_hold_no_lf}
use Rattle.mk_tables.specs.declared.raw.RawTable.{RawTable}
use Rattle.mk_tables.specs.KeptTables.{KeepsItsText}
use Rattle.mk_tables.specs.TableLines.{Line}
use Rattle.mk_tables.proofs.ForCallers.{whole_is_table}
use Rattle.mk_v3000.proofs.ForCallers.{kept_lines_are_the_table}
use Rattle.mk_sdfile.specs.declared.raw_record.RawRecord.{RawRecord}
use Rattle.mk_sdfile.specs.MoleculeFile.{IsEitherTable}
use Rattle.mk_sdfile.specs.Sdfile.{is_separator, IsRecord, IsSdfile, TextIsItsRecord}
use Rattle.mk_sdfile.proofs.SdfileFactLemmas.{of_all}

-- ---- separators

-- what the first bytes of a line begin with, the line does
begins_more : (word line : List ℕ) (n : ℕ) → starts_with nat_eq (take n line) word ≡ true → starts_with nat_eq line word ≡ true
begins_more [] line n h = refl
begins_more (c ∷ word) [] zero h = h
begins_more (c ∷ word) [] (suc n) h = h
begins_more (c ∷ word) (x ∷ line) zero h = absurd cc
begins_more (c ∷ word) (x ∷ line) (suc n) h =
    let two = both (eqb c x) (starts_with nat_eq (take n line) word) h in
    rw (two.0, begins_more word line n two.1) refl

-- so a line that is no separator is none without the CR bytes at its end
stays_at : (b : Bool) (line : Line) → is_separator (without_crs line) ≡ b → is_separator line ≡ false → is_separator (without_crs line) ≡ false
stays_at false line is none = is
stays_at true line is none = absurd (let more = begins_more (codes "$$$$") line (length line - suffix_len is_cr line) is in cc)

-- of all lines
stays : (lines : List Line) → EachIs is_separator false lines → EachIs is_separator false (map without_crs lines)
stays [] none = tt
stays (line ∷ lines) none = (stays_at (is_separator (without_crs line)) line refl none.0, stays lines none.1)

-- ---- records

-- no LF stands in the line
abbrev NoLf : Line → Type 0
NoLf line = Contains line 10 → ⊥

-- a table of either kind is, without the CR bytes at the ends of its lines, the same table
kept_table : (lines : List Line) (t : RawTable) → IsEitherTable lines t → KeepsItsText t → IsEitherTable (map without_crs lines) t
kept_table lines t h keeps = elim h [ inl h ↦ inl (kept_lines_are_the_table lines t h) | inr h ↦ inr (whole_is_table lines t h keeps) ]

-- the lines of a record are, without the CR bytes at their ends, the same record
kept_record : (lines : List Line) (r : RawRecord) → IsRecord lines r → All NoLf lines → KeepsItsText r.table → IsRecord (map without_crs lines) r
kept_record lines r h none keeps =
    let molfile = h.molfile in
    let again : kept_lines (map without_crs lines) ≡ kept_lines lines = ap kept_lines (sym (kept_lines_are_read lines none)) ∙ kept_lines_stay lines none in
    record {
      molfile_lines = map without_crs h.molfile_lines;
      data_lines = map without_crs h.data_lines;
      whole = ap (map without_crs) h.whole ∙ map-append without_crs h.molfile_lines h.data_lines;
      molfile = record {
        header_lines = map without_crs molfile.header_lines;
        table_lines = map without_crs molfile.table_lines;
        whole = ap (map without_crs) molfile.whole ∙ map-append without_crs molfile.header_lines molfile.table_lines;
        three = length-map molfile.header_lines without_crs ∙ molfile.three;
        is = kept_table molfile.table_lines r.table molfile.is keeps;
      };
      no_separator = stays h.data_lines h.no_separator;
      text = h.text ∙ sym again;
    }

-- so its text is an SDfile of it
text_is : (lines : List Line) (r : RawRecord) → IsRecord lines r → AllByRecursion NoLf lines → KeepsItsText r.table → IsSdfile (lines_of r.text) (r ∷ [])
text_is lines r h none keeps =
    let no_lf = All-from_recursion NoLf lines none in
    let same : lines_of r.text ≡ map without_crs lines = ap lines_of h.text ∙ kept_lines_are_read lines no_lf in
    record {
      blocks = [];
      block_lines = [];
      last = Some r;
      last_lines = lines_of r.text;
      whole = refl;
      each = refl;
      ended = subst (λ (ls : List Line). IsRecord ls r) (sym same) (kept_record lines r h no_lf keeps);
      all = refl;
    }

-- and so are those of all records
pub text_is_its_record : TextIsItsRecord
text_is_its_record text records h =
    of_all NoLf (λ r. KeepsItsText r.table → IsSdfile (lines_of r.text) (r ∷ [])) (lines_of text) records
    (recursion_from_All NoLf (lines_of text) (lines_hold_no_lf text))
    (λ lines r is few none keeps. text_is lines r is none keeps) h
