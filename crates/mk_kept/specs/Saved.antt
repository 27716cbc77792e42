-- What a session holds beside its library: kept queries and saved searches.
--     is_named name rows          some query has the name
--     bytes_of_texts rows         how many bytes the texts of queries have together
--     greatest_number rows        the greatest number of a query, and 0 where there is none
--     IsMeant text query          the text is that of a query row, and means this query
--     HasMeaning text             and some query is meant
--     SavedView                   what is seen of a `Saved`
--     IsSameSaved a b             two of them hold the same, whatever room they have
--     saved_tables saved          its rows and its next number, as tables without records
--     HasRoomFor rows text        a query with this text can be kept beside these
--     HasSearchRoom cursors next  one more search may be saved
use Rattle.std.specs.Prelude.{◌≡◌, ℕ, ◌+◌, ◌<◌, ◌≤◌, max, Bool, true, false, List, [], ◌∷◌, length, map, bytes_eq, ⊤}
use Rattle.std.specs.List.{AllByRecursion, list_any}
use Rattle.std.specs.Global.{Vec}
use Rattle.mk_model.specs.Queries.{QueryView}
use Rattle.mk_outside.specs.declared.tables.QueryRow.{QueryRow}
use Rattle.mk_outside.specs.declared.tables.CursorRow.{CursorRow}
use Rattle.mk_outside.specs.declared.tables.Tables.{Tables}
use Rattle.mk_outside.specs.Tables.{no_tables}
use Rattle.mk_rgfile.specs.KeptQueries.{IsKeptText}
use Rattle.mk_rows.specs.declared.by_number.Numbered.{Numbered}
use Rattle.mk_kept.specs.declared.saved.Kept.{Kept}
use Rattle.mk_kept.specs.declared.saved.SavedSearch.{SavedSearch}
use Rattle.mk_kept.specs.Names.{IsName}
use Rattle.mk_kept.specs.QueryText.{IsQueryOfText}

-- ---- how much may be held

-- how many queries may be held
abbrev pub most_queries : ℕ
most_queries = 1000

-- how many bytes the texts of all queries may have together
abbrev pub most_text_bytes : ℕ
most_text_bytes = 33554432

-- how many bytes the text of one query may have: one more than a file, whose last line may gain an
-- LF
abbrev pub most_query_bytes : ℕ
most_query_bytes = 4194305

-- the greatest number of a query
abbrev pub most_query_number : ℕ
most_query_number = 4294967295

-- how many saved searches may be held
abbrev pub most_searches : ℕ
most_searches = 1000

-- the greatest number of a saved search
abbrev pub most_search_number : ℕ
most_search_number = 999999999

-- how many numbers a place has at the most
abbrev pub longest_place : ℕ
longest_place = 514

-- ---- queries

-- some query has the name
abbrev pub is_named : List ℕ → List QueryRow → Bool
is_named name rows = list_any (λ row. bytes_eq row.name name) rows

-- how many bytes the texts have together
abbrev pub bytes_of_texts : List QueryRow → ℕ
bytes_of_texts [] = 0
bytes_of_texts (row ∷ rows) = length row.text + bytes_of_texts rows

-- the greatest number of a query, and 0 where there is none
abbrev pub greatest_number : List QueryRow → ℕ
greatest_number [] = 0
greatest_number (row ∷ rows) = max row.number (greatest_number rows)

-- each number is below all later ones
abbrev pub AreRisingQueries : List QueryRow → Type 0
AreRisingQueries [] = ⊤
AreRisingQueries (row ∷ rows) = AllByRecursion (λ (later : QueryRow). row.number < later.number) rows × AreRisingQueries rows

-- no two queries have one name
abbrev pub AreDistinct : List QueryRow → Type 0
AreDistinct [] = ⊤
AreDistinct (row ∷ rows) = (is_named row.name rows ≡ false) × AreDistinct rows

-- Each line of the text ends with LF and without CR. It is a query file that passes every check,
-- and this is its query.
pub record IsMeant (text : List ℕ) (query : QueryView) : Type 0 where
  pub kept : IsKeptText text
  pub is : IsQueryOfText text query

-- the text is that of a query row, and means some query
abbrev pub HasMeaning : List ℕ → Type 0
HasMeaning text = (query : QueryView) × IsMeant text query

-- the texts may have so many bytes more, and there is a number above all
pub record HasRoomFor (rows : List QueryRow) (text : List ℕ) : Type 0 where
  pub bytes : bytes_of_texts rows + length text ≤ most_text_bytes
  pub number : greatest_number rows < most_query_number

-- ---- saved searches

-- a saved search has the name
abbrev pub is_waiting : List ℕ → List CursorRow → Bool
is_waiting name rows = list_any (λ row. bytes_eq row.name name) rows

-- ---- a `Saved`

-- what is seen of a `Saved`: its queries, what each of them means, its saved searches, the number
-- of the next of these, and how many more it has room for
pub record SavedView : Type 0 where
  pub queries : List QueryRow
  pub meanings : List QueryView
  pub cursors : List CursorRow
  pub next_cursor : ℕ
  pub query_room : ℕ
  pub cursor_room : ℕ

-- two of them hold the same
pub record IsSameSaved (a b : SavedView) : Type 0 where
  pub queries : b.queries ≡ a.queries
  pub meanings : b.meanings ≡ a.meanings
  pub cursors : b.cursors ≡ a.cursors
  pub next_cursor : b.next_cursor ≡ a.next_cursor

-- queries, saved searches and the number of the next of these, as tables without records
abbrev pub kept_tables : List QueryRow → List CursorRow → ℕ → Tables
kept_tables queries cursors next = record no_tables { queries = queries; cursors = cursors; next_cursor = next }

-- queries and saved searches that are held, as tables without records
abbrev pub saved_tables : SavedView → Tables
saved_tables saved = kept_tables saved.queries saved.cursors saved.next_cursor

-- ---- for the code

-- a kept query under its name, as its row
abbrev pub query_row : Vec ℕ × Kept → QueryRow
query_row entry = record { number = entry.1.number; name = entry.0.items; text = entry.1.text }

-- kept queries under their names, as rows
abbrev pub rows_of : List (Vec ℕ × Kept) → List QueryRow
rows_of entries = map query_row entries

-- what a kept query means
abbrev pub meaning_of : Vec ℕ × Kept → QueryView
meaning_of entry = entry.1.query

-- what kept queries mean
abbrev pub meanings_of : List (Vec ℕ × Kept) → List QueryView
meanings_of entries = map meaning_of entries

-- a saved search under its number, as its row
abbrev pub cursor_row : Numbered SavedSearch → CursorRow
cursor_row row = record { number = row.number; name = row.item.name; place = row.item.place }

-- saved searches under their numbers, as rows
abbrev pub cursors_of : List (Numbered SavedSearch) → List CursorRow
cursors_of rows = map cursor_row rows

-- the name is a name, the number isn't 0, and the query is that of the text
pub record IsKeptEntry (entry : Vec ℕ × Kept) : Type 0 where
  pub name : IsName entry.0.items
  pub number : 1 ≤ entry.1.number
  pub meant : IsMeant entry.1.text entry.1.query

-- the number can be kept and is below the next, a query has the name, and the place is no longer
-- than a place can be
pub record IsKeptSearch (queries : List QueryRow) (next : ℕ) (row : CursorRow) : Type 0 where
  pub known : row.number ≤ most_search_number
  pub below : row.number < next
  pub named : is_named row.name queries ≡ true
  pub short : length row.place ≤ longest_place

-- what a `Saved` keeps of its parts: the bytes of its texts are counted
pub record IsSaved (entries : List (Vec ℕ × Kept)) (bytes : ℕ) (cursors : List (Numbered SavedSearch)) (next : ℕ) : Type 0 where
  pub each : AllByRecursion IsKeptEntry entries
  pub rising : AreRisingQueries (rows_of entries)
  pub distinct : AreDistinct (rows_of entries)
  pub few : length entries ≤ most_queries
  pub short : bytes_of_texts (rows_of entries) ≤ most_text_bytes
  pub counted : bytes ≡ bytes_of_texts (rows_of entries)
  pub searches : AllByRecursion (IsKeptSearch (rows_of entries) next) (cursors_of cursors)

-- ---- what is searched

-- there are fewer than 1,000, and the next has a number that it may have
pub record HasSearchRoom (cursors : List CursorRow) (next : ℕ) : Type 0 where
  pub few : length cursors < most_searches
  pub number : next ≤ most_search_number
