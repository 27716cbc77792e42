-- What files and their texts come to.
--     sdfile_or_bad        lines are an SDfile, or have a first bad line, which says V3000 or doesn't
--     read_keeps           its records' tables are those of a text
--     molecule_or_none     a text is that of a molecule, or of none
--     rows_of              the rows of the records that are molecules
use Rattle.std.proofs.Common.{◌≡◌, ◌≢◌, ◌≤◌, ◌<◌, ◌+◌, ℕ, zero, suc, Bool, true, false, cond, eqb, List, [], ◌∷◌, Option, Some, None, IsTrue, refl, sym, ap, subst, ◌∙◌, arith, inl, inr, length, All, ⊎_elim}
use Rattle.std.specs.Prelude.{◌⊎◌, ◌↔◌, Ok, not}
use Rattle.std.proofs.lemmas.Bool.{eqb-false, eqb-true}
use Rattle.std.proofs.lemmas.List.Elements.{All-head}
use Rattle.mk_text.specs.Lines.{lines_of}
use Rattle.mk_form.proofs.Stops.{bad_line_is_stop, stop_is_named, text_or_bad}
use Rattle.mk_model.specs.Molecules.{Molecule}
use Rattle.mk_tables.specs.TableFacts.{IsRawTable}
use Rattle.mk_tables.specs.TableLines.{Line}
use Rattle.mk_sdfile.specs.declared.raw_record.RawRecord.{RawRecord}
use Rattle.mk_sdfile.specs.Sdfile.{IsBadSdfileLine, IsSdfile, IsNamedV3000}
use Rattle.mk_sdfile.proofs.SdfileFactLemmas.{keeps_by}
use Rattle.mk_sdfile.proofs.SdfileLemmas.{exact-sdfile, one}
use Rattle.mk_outside.specs.declared.tables.RecordRow.{RecordRow}
use Rattle.mk_rows.specs.declared.by_number.Numbered.{Numbered}
use Rattle.mk_rows.specs.Rows.{item_at, without}
use Rattle.mk_library.specs.Records.{IsMoleculeOf, IsRecordText, text_under}
use Rattle.mk_query.proofs.KnownLemmas.{Known, known_bytes}
use Rattle.mk_mol.specs.Filled.{IsFilled}
use Rattle.mk_mol.specs.FirstFault.{MeetsAllChecks}
use Rattle.mk_mol.proofs.ForCallers.{no_fault, one_filled}
use Rattle.mk_marks.proofs.ForCallers.{one_list_of_mol_bonds}
use Rattle.mk_values.proofs.TableMoleculeLemmas.{fault_or_molecule}

-- ---- SDfiles

-- the first bad line of lines, and whether it says V3000
abbrev pub IsStopOfSdfile : List Line → Type 0
IsStopOfSdfile lines = (k : ℕ) × ((named : Bool) × (IsBadSdfileLine lines k × (IsTrue named ↔ IsNamedV3000 lines k)))

pub sdfile_or_bad : (lines : List Line) → ((records : List RawRecord) × IsSdfile lines records) ⊎ IsStopOfSdfile lines
sdfile_or_bad lines =
    ⊎_elim (λ text. inl text)
    (λ bad. let stop = (bad_line_is_stop exact-sdfile lines bad.0).0 bad.1 in inr (bad.0, (stop.0, (bad.1, stop_is_named exact-sdfile lines bad.0 stop.0 stop.1))))
    (text_or_bad exact-sdfile lines)

-- the tables of an SDfile are those of a text
pub read_keeps : (lines : List Line) (records : List RawRecord) → IsSdfile lines records → All (λ (r : RawRecord). IsRawTable r.table) records
read_keeps lines records is = keeps_by {E = ℕ} lines (Ok records) is

-- ---- the molecule of a text

-- one record is read from lines
one_record : (lines : List Line) (raw other : RawRecord) → IsSdfile lines (raw ∷ []) → IsSdfile lines (other ∷ []) → other ≡ raw
one_record lines raw other is its = let same = one lines (other ∷ []) (raw ∷ []) its is in cc

-- a text is that of one molecule
one_of_text : (text : List ℕ) (mol other : Molecule) → IsMoleculeOf text mol → IsMoleculeOf text other → mol ≡ other
one_of_text text mol other is its =
    let same = one_record (lines_of text) is.is.raw its.is.raw is.is.read its.is.read in
    one_filled one_list_of_mol_bonds is.is.raw.table mol other is.kept its.kept is.filled (subst (λ (r : RawRecord). IsFilled r.table other) same its.filled)

-- a record that is its own text is a molecule, or none
own_record : (text : List ℕ) (raw : RawRecord) → IsSdfile (lines_of text) (raw ∷ []) → Known ((mol : Molecule) × IsMoleculeOf text mol)
own_record text raw read =
    elim (known_bytes raw.text text) [
      | inl own ↦ (let kept = All-head (λ (r : RawRecord). IsRawTable r.table) raw [] (read_keeps (lines_of text) (raw ∷ []) read) in
          elim (fault_or_molecule raw.table kept.few_atoms kept.few_bonds) [
            | inl fault ↦ inr (λ found. no_fault raw.table fault.0 fault.1.0
                (subst (λ (r : RawRecord). MeetsAllChecks r.table)
                (one_record (lines_of text) raw found.1.is.raw read found.1.is.read) found.1.is.passes) fault.1.1)
            | inr made ↦ inl (made.0, record { is = record { raw = raw; read = read; own = own; passes = made.1.passes }; filled = made.1.filled; kept = made.1.kept })
          ])
      | inr other ↦ inr (λ found. other (subst (λ (r : RawRecord). r.text ≡ text) (one_record (lines_of text) raw found.1.is.raw read found.1.is.read) found.1.is.own))
    ]

-- a text is that of a molecule, or of none
pub molecule_or_none : (text : List ℕ) → Known ((mol : Molecule) × IsMoleculeOf text mol)
molecule_or_none text = by_file (sdfile_or_bad (lines_of text))
  where
    other_records : (records : List RawRecord) → IsSdfile (lines_of text) records → ((raw : RawRecord) → raw ∷ [] ≡ records → ⊥) → Known ((mol : Molecule) × IsMoleculeOf text mol)
    other_records records is none = inr (λ found. none found.1.is.raw (one (lines_of text) (found.1.is.raw ∷ []) records found.1.is.read is))

    by_records : (records : List RawRecord) → IsSdfile (lines_of text) records → Known ((mol : Molecule) × IsMoleculeOf text mol)
    by_records [] is = other_records [] is (λ raw same. absurd cc)
    by_records (raw ∷ []) is = own_record text raw is
    by_records (raw ∷ second ∷ others) is = other_records (raw ∷ second ∷ others) is (λ other same. absurd cc)

    by_file : ((records : List RawRecord) × IsSdfile (lines_of text) records) ⊎ IsStopOfSdfile (lines_of text) → Known ((mol : Molecule) × IsMoleculeOf text mol)
    by_file (inl (records, is)) = by_records records is
    by_file (inr (k, (named, (bad, says)))) = inr (λ found. bad.no_text (found.1.is.raw ∷ []) found.1.is.read)

-- ---- rows of molecules

-- the item under a number, where the rows of another are left out
item_without : (m n : ℕ) (rows : List (Numbered Molecule)) → item_at n (without m rows) ≡ cond (eqb m n) None (item_at n rows)
item_without m n [] = by_test (eqb m n)
  where
    by_test : (b : Bool) → ◌≡◌ {A = Option Molecule} None (cond b None None)
    by_test true = refl
    by_test false = refl
item_without m n (row ∷ rows) = by_number (eqb row.number m) (eqb row.number n) (eqb m n) refl refl refl (item_without m n rows)
  where
    by_number : (a b c : Bool) → eqb row.number m ≡ a → eqb row.number n ≡ b → eqb m n ≡ c → item_at n (without m rows) ≡ cond c None (item_at n rows)
        → item_at n (cond (not a) (row ∷ without m rows) (without m rows)) ≡ cond c None (cond b (Some row.item) (item_at n rows))
    by_number true true true p q r later = later
    by_number true true false p q r later = absurd (eqb-false m n r (sym (eqb-true row.number m p) ∙ eqb-true row.number n q))
    by_number true false true p q r later = later
    by_number true false false p q r later = later
    by_number false true true p q r later = absurd (eqb-false row.number m p (eqb-true row.number n q ∙ sym (eqb-true m n r)))
    by_number false true false p q r later = rw q refl
    by_number false false true p q r later = rw q later
    by_number false false false p q r later = rw q later

-- a row of the number with the molecule that was found; where there is none, no row of the number
with_row : {text : List ℕ} → Known ((mol : Molecule) × IsMoleculeOf text mol) → ℕ → List (Numbered Molecule) → List (Numbered Molecule)
with_row (inl found) n rows = record { number = n; item = found.0 } ∷ rows
with_row (inr none) n rows = without n rows

-- the rows of the records that are molecules: under a number is that of the first record of it
pub rows_of : List RecordRow → List (Numbered Molecule)
rows_of [] = []
rows_of (row ∷ records) = with_row (molecule_or_none row.text) row.number (rows_of records)

-- the molecule is that of the text under the number
pub record IsAtNumber (records : List RecordRow) (n : ℕ) (mol : Molecule) : Type 0 where
  pub text : List ℕ
  pub held : text_under n records ≡ Some text
  pub is : IsMoleculeOf text mol

-- what is left where a row was left out
cut_true : (b : Bool) (items : Option Molecule) (mol : Molecule) → b ≡ true → cond b None items ≡ Some mol → ⊥
cut_true true items mol is at = cc
cut_true false items mol is at = cc

cut_false : (b : Bool) (items : Option Molecule) (mol : Molecule) → b ≡ false → (cond b None items ≡ Some mol) ↔ (items ≡ Some mol)
cut_false true items mol is = absurd cc
cut_false false items mol is = (λ at. at, λ at. at)

-- what stands under a number, by its first row
here : {X : Type 0} (b : Bool) (first : X) (others : Option X) → b ≡ true → cond b (Some first) others ≡ Some first
here true first others is = refl
here false first others is = absurd cc

later_on : {X : Type 0} (b : Bool) (first : X) (others : Option X) → b ≡ false → cond b (Some first) others ≡ others
later_on true first others is = absurd cc
later_on false first others is = refl

same_some : {X : Type 0} (x y : X) → Some x ≡ Some y → x ≡ y
same_some x y e = cc

-- of one row and the others
one_row : (row : RecordRow) (records : List RecordRow) (rows : List (Numbered Molecule)) (n : ℕ) (mol : Molecule) → (item_at n rows ≡ Some mol) ↔ IsAtNumber records n mol
    → (found : Known ((mol : Molecule) × IsMoleculeOf row.text mol)) → (item_at n (with_row found row.number rows) ≡ Some mol) ↔ IsAtNumber (row ∷ records) n mol
unfolding with_row
one_row row records rows n mol later (inl found) = by_test (eqb row.number n) refl
  where
    by_test : (b : Bool) → eqb row.number n ≡ b → (cond (eqb row.number n) (Some found.0) (item_at n rows) ≡ Some mol) ↔ IsAtNumber (row ∷ records) n mol
    by_test true is = (
      λ there. record {
        text = row.text;
        held = here (eqb row.number n) row.text (text_under n records) is;
        is = subst (IsMoleculeOf row.text) (same_some found.0 mol (sym (here (eqb row.number n) found.0 (item_at n rows) is) ∙ there)) found.1;
      },
      λ at.
          let same : row.text ≡ at.text = same_some row.text at.text (sym (here (eqb row.number n) row.text (text_under n records) is) ∙ at.held) in
          here (eqb row.number n) found.0 (item_at n rows) is ∙ ap (λ (m : Molecule). Some m) (one_of_text row.text found.0 mol found.1 (subst (λ (t : List ℕ). IsMoleculeOf t mol) (sym same) at.is)),
    )
    by_test false is = (
      λ there. (let at = later.0 (sym (later_on (eqb row.number n) found.0 (item_at n rows) is) ∙ there)
          in record {
            text = at.text;
            held = later_on (eqb row.number n) row.text (text_under n records) is ∙ at.held;
            is = at.is;
          }),
      λ at. later_on (eqb row.number n) found.0 (item_at n rows) is
          ∙ later.1 (record {
            text = at.text;
            held = sym
                (later_on (eqb row.number n) row.text (text_under n records) is) ∙ at.held;
            is = at.is;
          }),
    )
one_row row records rows n mol later (inr none) = by_test (eqb row.number n) refl
  where
    by_test : (b : Bool) → eqb row.number n ≡ b → (item_at n (without row.number rows) ≡ Some mol) ↔ IsAtNumber (row ∷ records) n mol
    by_test true is = (
      λ there. absurd (cut_true (eqb row.number n) (item_at n rows) mol is (sym (item_without row.number n rows) ∙ there)),
      λ at.
          let same : row.text ≡ at.text = same_some row.text at.text (sym (here (eqb row.number n) row.text (text_under n records) is) ∙ at.held) in
          absurd (none (mol, subst (λ (t : List ℕ). IsMoleculeOf t mol) (sym same) at.is)),
    )
    by_test false is = (
      λ there.
          let at = later.0 ((cut_false (eqb row.number n) (item_at n rows) mol is).0 (sym (item_without row.number n rows) ∙ there)) in
          record { text = at.text; held = later_on (eqb row.number n) row.text (text_under n records) is ∙ at.held; is = at.is },
      λ at.
          item_without row.number n rows
          ∙ (cut_false (eqb row.number n) (item_at n rows) mol is).1
          (later.1 (record {
            text = at.text;
            held = sym
                (later_on (eqb row.number n) row.text (text_under n records) is) ∙ at.held;
            is = at.is;
          })),
    )

-- the rows hold exactly the molecules of the texts under their numbers
pub rows_hold : (records : List RecordRow) (n : ℕ) (mol : Molecule) → (item_at n (rows_of records) ≡ Some mol) ↔ IsAtNumber records n mol
unfolding rows_of
rows_hold [] n mol = (λ there. absurd cc, λ at. absurd (let e = at.held in cc))
rows_hold (row ∷ records) n mol = one_row row records (rows_of records) n mol (rows_hold records n mol) (molecule_or_none row.text)
