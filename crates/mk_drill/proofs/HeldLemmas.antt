-- What is held of the drilled molecules: their filled molecules, under their numbers.
use Rattle.std.proofs.Common.{[], ◌∷◌, ◌≡◌, ℕ, ◌/◌, ◌≤◌, Bool, true, false, cond, eqb, List, Option, Some, None, arith, refl, sym, ap, ◌∙◌, subst}
use Rattle.std.proofs.lemmas.Bool.{eqb-true, eqb-false}
use Rattle.std.proofs.lemmas.List.Elements.{All-head}
use Rattle.mk_text.specs.Lines.{lines_of}
use Rattle.mk_model.specs.Molecules.{Molecule}
use Rattle.mk_rows.specs.declared.by_number.Numbered.{Numbered}
use Rattle.mk_rows.specs.Rows.{item_at}
use Rattle.mk_outside.specs.declared.tables.RecordRow.{RecordRow}
use Rattle.mk_tables.specs.declared.raw.RawTable.{RawTable}
use Rattle.mk_tables.specs.KeptTables.{KeepsItsText}
use Rattle.mk_sdfile.specs.declared.raw_record.RawRecord.{RawRecord}
use Rattle.mk_sdfile.specs.Sdfile.{IsSdfile}
use Rattle.mk_sdfile.proofs.SdfileLemmas.{one}
use Rattle.mk_sdfile.proofs.SdfileTextLemmas.{text_is_its_record}
use Rattle.mk_mol.specs.Filled.{IsFilled}
use Rattle.mk_mol.specs.FirstFault.{known_atoms, known_properties}
use Rattle.mk_mol.specs.Laws.{OneFilledMolecule}
use Rattle.mk_mol.proofs.LawLemmas.{keeps_text}
use Rattle.mk_library.specs.Records.{AreHeld, IsMoleculeOf, text_under}
use Rattle.mk_drill.specs.Draws.{IsDrilled, drilled_table, state_for}
use Rattle.mk_drill.specs.Drill.{HoldsDrilled, IsLeft}
use Rattle.mk_drill.specs.DrilledRecords.{HoldsExactly, IsLoadable, drilled_text, is_left, left_below, record_text}
use Rattle.mk_drill.proofs.DrilledTextLemmas.{drilled_is_loadable, is_sdfile, record_of}
use Rattle.mk_drill.proofs.RecordsLemmas.{left_is_no_multiple, no_multiple_is_left, records_from, text_for, text_given, text_passing, text_there}

-- ---- the molecule of a text

-- the text of the record is a file of that record
text_again : (table : RawTable) → IsLoadable table → IsSdfile (lines_of (record_text table)) (record_of table ∷ [])
text_again table fits =
    All-head (λ (r : RawRecord). KeepsItsText r.table → IsSdfile (lines_of r.text) (r ∷ [])) (record_of table) []
    (text_is_its_record (drilled_text table) (record_of table ∷ []) (is_sdfile table fits.can))
    (keeps_text table (fits.passes known_atoms) (fits.passes known_properties)).0

first_is : (a b : RawRecord) → a ∷ [] ≡ b ∷ [] → a.table ≡ b.table
first_is a b same = let one : a ≡ b = cc in ap (λ (r : RawRecord). r.table) one

-- the molecule of the text is the filled molecule of the table
of_text : (table : RawTable) (mol : Molecule) → IsLoadable table → IsMoleculeOf (record_text table) mol → IsFilled table mol
of_text table mol fits is =
    let raws = one (lines_of (record_text table)) (is.is.raw ∷ []) (record_of table ∷ []) is.is.read (text_again table fits) in
    subst (λ (t : RawTable). IsFilled t mol) (first_is is.is.raw (record_of table) raws) is.filled

-- ---- records and rows

-- the molecule under a number is that of its text
pub record IsOfText (records : List RecordRow) (n : ℕ) (mol : Molecule) : Type 0 where
  pub text : List ℕ
  pub at : text_under n records ≡ Some text
  pub is : IsMoleculeOf text mol

row_at : (a b : Bool) (x y n : ℕ) (text : List ℕ) (item mol : Molecule) (texts : Option (List ℕ)) (items : Option Molecule) → x ≡ y → eqb x n ≡ a → eqb y n ≡ b → IsMoleculeOf text item
    → (items ≡ Some mol → (found : List ℕ) × (texts ≡ Some found) × IsMoleculeOf found mol)
    → cond b (Some item) items ≡ Some mol → (found : List ℕ) × (cond a (Some text) texts ≡ Some found) × IsMoleculeOf found mol
row_at true true x y n text item mol texts items same p q is rest at = (text, refl, (let m : item ≡ mol = cc in subst (IsMoleculeOf text) m is))
row_at true false x y n text item mol texts items same p q is rest at = absurd (eqb-false y n q (sym same ∙ eqb-true x n p))
row_at false true x y n text item mol texts items same p q is rest at = absurd (eqb-false x n p (same ∙ eqb-true y n q))
row_at false false x y n text item mol texts items same p q is rest at = rest at

found_text : (records : List RecordRow) (rows : List (Numbered Molecule)) (n : ℕ) (mol : Molecule)
    → AreHeld records rows → item_at n rows ≡ Some mol → (text : List ℕ) × (text_under n records ≡ Some text)
    × IsMoleculeOf text mol
found_text [] [] n mol held at = absurd cc
found_text [] (row ∷ rows) n mol held at = absurd held
found_text (first ∷ records) [] n mol held at = absurd held
found_text (first ∷ records) (row ∷ rows) n mol held at =
    row_at (eqb first.number n) (eqb row.number n) first.number row.number n first.text row.item mol (text_under n records) (item_at n rows) held.0 refl refl held.1
    (found_text records rows n mol held.2) at

item_there : (a b : Bool) (x y n : ℕ) (text found : List ℕ) (item : Molecule) (texts : Option (List ℕ)) (items : Option Molecule) → x ≡ y → eqb x n ≡ a → eqb y n ≡ b → IsMoleculeOf text item
    → (texts ≡ Some found → (mol : Molecule) × (items ≡ Some mol) × IsMoleculeOf found mol)
    → cond a (Some text) texts ≡ Some found → (mol : Molecule) × (cond b (Some item) items ≡ Some mol) × IsMoleculeOf found mol
item_there true true x y n text found item texts items same p q is rest at = (item, refl, (let t : text ≡ found = cc in subst (λ (t : List ℕ). IsMoleculeOf t item) t is))
item_there true false x y n text found item texts items same p q is rest at = absurd (eqb-false y n q (sym same ∙ eqb-true x n p))
item_there false true x y n text found item texts items same p q is rest at = absurd (eqb-false x n p (same ∙ eqb-true y n q))
item_there false false x y n text found item texts items same p q is rest at = rest at

found_item : (records : List RecordRow) (rows : List (Numbered Molecule)) (n : ℕ) (text : List ℕ) → AreHeld records rows
    → text_under n records ≡ Some text → (mol : Molecule) × (item_at n rows ≡ Some mol) × IsMoleculeOf text mol
found_item [] [] n text held at = absurd cc
found_item [] (row ∷ rows) n text held at = absurd held
found_item (first ∷ records) [] n text held at = absurd held
found_item (first ∷ records) (row ∷ rows) n text held at =
    item_there (eqb first.number n) (eqb row.number n) first.number row.number n first.text text row.item (text_under n records) (item_at n rows) held.0 refl refl held.1
    (found_item records rows n text held.2) at

-- ---- drilled molecules

drilled_of : (start n : ℕ) (text : List ℕ) (mol : Molecule) → text ≡ text_for start n → IsMoleculeOf text mol → IsDrilled start n mol
drilled_of start n text mol same is =
    let of = subst (λ (t : List ℕ). IsMoleculeOf t mol) same is in
    record { filled = of_text (drilled_table (state_for start n)) mol (drilled_is_loadable (state_for start n)) of; kept = is.kept }

-- the molecule that is held there is the one that is drilled
same_molecule : (start n : ℕ) (mol other : Molecule) → OneFilledMolecule → IsDrilled start n mol → IsDrilled start n other → mol ≡ other
same_molecule start n mol other one a b = one (drilled_table (state_for start n)) mol other a.kept b.kept a.filled b.filled

there : (start n : ℕ) (records : List RecordRow) (rows : List (Numbered Molecule)) (mol : Molecule) → OneFilledMolecule
    → AreHeld records rows → text_under n records ≡ Some (text_for start n) → IsDrilled start n mol
    → item_at n rows ≡ Some mol
there start n records rows mol one held at drilled =
    let found = found_item records rows n (text_for start n) held at in
    let other = drilled_of start n (text_for start n) found.0 refl found.2 in
    found.1 ∙ ap (λ (m : Molecule). Some m) (same_molecule start n found.0 mol one other drilled)

-- where all records are held, exactly the drilled molecules are
pub all_held : (start count : ℕ) (rows : List (Numbered Molecule)) → OneFilledMolecule → AreHeld (records_from start 1 count) rows → HoldsExactly rows (HoldsDrilled start count)
all_held start count rows one held n mol = (
  λ at.
      let found = found_text (records_from start 1 count) rows n mol held at in
      let given = text_given start count n found.0 found.1 in
      record { from_one = given.least; to_count = omega (arith, given.below); drilled = drilled_of start n found.0 mol given.is found.2 },
  λ is. there start n (records_from start 1 count) rows mol one held (text_there start count n is.from_one is.to_count) is.drilled,
)

given_left : (b : Bool) (n : ℕ) (texts : Option (List ℕ)) (text : List ℕ) → cond b texts None ≡ Some text → (b ≡ true) × (texts ≡ Some text)
given_left true n texts text at = (refl, at)
given_left false n texts text at = absurd cc

-- and behind the removal those under no multiple of 5
pub left_held : (start count : ℕ) (rows : List (Numbered Molecule)) → OneFilledMolecule → AreHeld (left_below (count / 5) (records_from start 1 count)) rows → HoldsExactly rows (IsLeft start count)
left_held start count rows one held n mol = (
  λ at.
      let records = left_below (count / 5) (records_from start 1 count) in
      let found = found_text records rows n mol held at in
      let both = given_left (is_left (count / 5) n) n (text_under n (records_from start 1 count)) found.0 (sym (text_passing (is_left (count / 5)) (records_from start 1 count) n) ∙ found.1) in
      let given = text_given start count n found.0 both.1 in
      let most : n ≤ count = omega (arith, given.below) in
      record {
        held = record { from_one = given.least; to_count = most; drilled = drilled_of start n found.0 mol given.is found.2 };
        no_multiple = left_is_no_multiple count n most both.0;
      },
  λ is.
      let kept : is_left (count / 5) n ≡ true = no_multiple_is_left count n is.no_multiple in
      there start n (left_below (count / 5) (records_from start 1 count)) rows mol one held
      (text_passing (is_left (count / 5)) (records_from start 1 count) n ∙ rw kept (text_there start count n is.held.from_one is.held.to_count)) is.held.drilled,
)
