-- The commands `show N`, `remove N` and `list`.
--     IsShow records n effect      what `show n` comes to
--     IsRemove records n effect    what `remove n` comes to
--     list_text t                  what `list` answers
use Rattle.std.specs.Prelude.{◌≡◌, ℕ, List, [], ◌∷◌, ◌++◌, length, true, false, Some, codes, decimal}
use Rattle.std.specs.List.{flat_map}
use Rattle.mk_text.specs.Lines.{lines_of}
use Rattle.mk_outside.specs.declared.tables.Change.TheVariants.{DropRecord}
use Rattle.mk_outside.specs.declared.tables.RecordRow.{RecordRow}
use Rattle.mk_outside.specs.declared.tables.QueryRow.{QueryRow}
use Rattle.mk_outside.specs.declared.tables.CursorRow.{CursorRow}
use Rattle.mk_outside.specs.declared.tables.Tables.{Tables}
use Rattle.mk_rows.specs.declared.by_number.Numbered.{Numbered}
use Rattle.mk_library.specs.Records.{is_held, text_under}
use Rattle.mk_found.specs.Effects.{Answers, Effect, Refuses}
use Rattle.mk_found.specs.Lines.{numbered_line}

-- ---- show N

-- the line for a record that isn't held
abbrev pub no_record_text : ℕ → List ℕ
no_record_text n = numbered_line (codes "refused 6 record ") n

-- the number of the record, how many lines its text has, and the text
abbrev pub record_text : ℕ → List ℕ → List ℕ
record_text n text = codes "record " ++ (decimal n ++ (codes " " ++ (decimal (length (lines_of text)) ++ (codes "\n" ++ text))))

-- what `show` of this number comes to
pub data IsShow (records : List RecordRow) (n : ℕ) (effect : Effect) : Type 0 where
  NoRecordShown : is_held n records ≡ false → effect ≡ Refuses (no_record_text n) → IsShow records n effect
  Shows : (text : List ℕ) → text_under n records ≡ Some text → effect ≡ Answers [] (record_text n text) → IsShow records n effect

-- ---- remove N

-- what `remove` of this number comes to
pub data IsRemove (records : List RecordRow) (n : ℕ) (effect : Effect) : Type 0 where
  NoRecordRemoved : is_held n records ≡ false → effect ≡ Refuses (no_record_text n) → IsRemove records n effect
  Removes : is_held n records ≡ true → effect ≡ Answers (DropRecord n ∷ []) (numbered_line (codes "removed ") n) → IsRemove records n effect

-- ---- list

-- the line of `list` for a record
abbrev pub record_line : RecordRow → List ℕ
record_line row = numbered_line (codes "record ") row.number

-- the line of `list` for a text under its number, which serves the code alone
abbrev pub row_line : Numbered (List ℕ) → List ℕ
row_line row = numbered_line (codes "record ") row.number

-- the line of `list` for a query of this name
abbrev pub name_line : List ℕ → List ℕ
name_line name = codes "query " ++ (name ++ codes "\n")

-- the line of `list` for a query
abbrev pub query_line : QueryRow → List ℕ
query_line row = name_line row.name

-- the line of `list` for a saved search
abbrev pub cursor_line : CursorRow → List ℕ
cursor_line row = codes "cursor " ++ (decimal row.number ++ (codes " " ++ (row.name ++ codes "\n")))

-- the last line of `list`: both next numbers
abbrev pub next_line : ℕ → ℕ → List ℕ
next_line record_number cursor_number = codes "next " ++ (decimal record_number ++ (codes " " ++ (decimal cursor_number ++ codes "\n")))

-- how many records, queries and saved searches there are, with a line for each, and the numbers
-- that come next
abbrev pub list_text : Tables → List ℕ
list_text t =
    (numbered_line (codes "records ") (length t.records) ++ flat_map record_line t.records)
    ++ ((numbered_line (codes "queries ") (length t.queries) ++ flat_map query_line t.queries)
    ++ ((numbered_line (codes "cursors ") (length t.cursors) ++ flat_map cursor_line t.cursors) ++ next_line t.next_record t.next_cursor))
