-- The text of a table.
--     column_head slot          the head of a site's column
--     head_line query           the first line: a column for each site of the root
--     members_line row              the line of a row
--     table_text query rows     the first line, a line for each row, and the last
use Rattle.std.specs.Prelude.{ℕ, List, [], ◌∷◌, ◌++◌, codes, decimal}
use Rattle.std.specs.List.{flat_map}
use Rattle.mk_model.specs.declared.template.Slot.{Slot}
use Rattle.mk_model.specs.declared.template.Slot.TheVariants.{Link, Site}
use Rattle.mk_model.specs.Queries.{QueryView, slots_of}
use Rattle.mk_rtable.specs.declared.rows.TableRow.{TableRow}

-- the tab of the text
abbrev pub tab : ℕ
tab = 9

-- the head of a site's column behind a tab: `site`, a blank and its atom; a link has no column
abbrev pub column_head : Slot → List ℕ
column_head (Link atom most from to) = []
column_head (Site atom groups first second) = tab ∷ (codes "site " ++ decimal atom)

-- a number behind a tab
abbrev pub cell : ℕ → List ℕ
cell n = tab ∷ decimal n

-- `record`, and the head of a column for each site of the root, by rising atom
abbrev pub head_line : QueryView → List ℕ
head_line query = codes "record" ++ (flat_map column_head (slots_of query 0) ++ codes "\n")

-- the record's number, and each member behind a tab
abbrev pub members_line : TableRow → List ℕ
members_line row = decimal row.number ++ (flat_map cell row.members ++ codes "\n")

-- the first line, a line for each row, and `end`
abbrev pub table_text : QueryView → List TableRow → List ℕ
table_text query rows = head_line query ++ (flat_map members_line rows ++ codes "end\n")
