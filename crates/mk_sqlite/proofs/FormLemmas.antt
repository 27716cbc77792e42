-- The rows of the three kinds, as they stand in the file.
use Rattle.std.proofs.Common.{◌≡◌, ◌<◌, ◌+◌, ◌*◌, ◌++◌, ℕ, ℤ, pos, negsuc, List, [], ◌∷◌, Bool, true}
use Rattle.std.proofs.Common.{false, cond, Option, Some, None, option_map, option_and_then, refl, sym, ap, ◌∙◌, All, arith, IsTrue}
use Rattle.std.specs.Prelude.{nat_lt}
use Rattle.std.specs.Int.{bytes_high_first}
use Rattle.std.proofs.lemmas.Bool.{lt-ltb}
use Rattle.sqlite_value.specs.declared.value.Value.{Value}
use Rattle.sqlite_value.specs.declared.value.Value.TheVariants.{Null, Int, Real, Text, Blob}
use Rattle.sqlite_value.specs.Order.{Row, column}
use Rattle.sqlite_trees.specs.declared.store.Shape.TheVariants.{Table}
use Rattle.sqlite_trees.specs.Tree.{rowid, put_row, without_rowid}
use Rattle.sqlite_trees.specs.View.{is_int, IsShaped}
use Rattle.sqlite_trees.proofs.TreeLemmas.{IsShaped-put_row, IsShaped-filter}
use Rattle.mk_outside.specs.declared.tables.RecordRow.{RecordRow}
use Rattle.mk_outside.specs.declared.tables.QueryRow.{QueryRow}
use Rattle.mk_outside.specs.declared.tables.CursorRow.{CursorRow}
use Rattle.mk_outside.specs.Rows.{put, without}
use Rattle.mk_outside.specs.Tables.{record_number, query_number, cursor_number, without_name}
use Rattle.mk_sqlite.specs.Told.{number_by, blob_by, text_by, spelt_place, record_in, query_in, cursor_in, IsKept}
use Rattle.mk_sqlite.proofs.ToldLemmas.{some_of, mapped_of}
use Rattle.mk_sqlite.proofs.TreeRowLemmas.{rise_from_table, read_put, read_filter, read_without}

-- a number that is read is an integer
pub number_is : (v : Value) (n : ℕ) → number_by v ≡ Some n → v ≡ Int (pos n)
number_is Null n h = cc
number_is (Int (pos m)) n h = go (nat_lt m 4294967296) h
  where
    go : (b : Bool) → cond b (Some m) None ≡ Some n → ◌≡◌ {A = Value} (Int (pos m)) (Int (pos n))
    go true e = let same : m ≡ n = cc in ap (λ k. Int (pos k)) same
    go false e = cc
number_is (Int (negsuc m)) n h = cc
number_is (Real x) n h = cc
number_is (Text t) n h = cc
number_is (Blob b) n h = cc

-- bytes that are read are a blob
pub blob_is : (v : Value) (bytes : List ℕ) → blob_by v ≡ Some bytes → v ≡ Blob bytes
blob_is (Blob b) bytes h = let same : b ≡ bytes = cc in ap Blob same
blob_is v bytes h = cc

-- a name that is read is a text
pub text_is : (v : Value) (bytes : List ℕ) → text_by v ≡ Some bytes → v ≡ Text bytes
text_is (Text b) bytes h = let same : b ≡ bytes = cc in ap Text same
text_is v bytes h = cc

-- the parts of a row that reads as a record, a query or a cursor
pub record IsRecord (row : List Value) (x : RecordRow) : Type 0 where
  pub number : rowid row ≡ Int (pos x.number)
  pub text : column row 2 ≡ Blob x.text

-- the row is that of a query
pub record IsQuery (row : List Value) (x : QueryRow) : Type 0 where
  pub number : rowid row ≡ Int (pos x.number)
  pub name : column row 2 ≡ Text x.name
  pub text : column row 3 ≡ Blob x.text

-- the row is that of a cursor, whose bytes spell its place
pub record IsCursor (row : List Value) (x : CursorRow) : Type 0 where
  pub number : rowid row ≡ Int (pos x.number)
  pub name : column row 2 ≡ Text x.name
  pub bytes : List ℕ
  pub blob : column row 3 ≡ Blob bytes
  pub place : spelt_place bytes ≡ Some x.place

-- a row that is read as a record is one
pub record_is : (row : Row) (x : RecordRow) → record_in row ≡ Some x → IsRecord row x
record_is row x h =
    let n = some_of _ (number_by (rowid row)) x h in
    let t = mapped_of _ (blob_by (column row 2)) x n.2 in
    record {
      number = number_is (rowid row) n.0 n.1 ∙ ap (λ (r : RecordRow). Int (pos r.number)) t.2;
      text = blob_is (column row 2) t.0 t.1 ∙ ap (λ (r : RecordRow). Blob r.text) t.2;
    }

-- a row that is read as a query is one
pub query_is : (row : Row) (x : QueryRow) → query_in row ≡ Some x → IsQuery row x
query_is row x h =
    let n = some_of _ (number_by (rowid row)) x h in
    let m = some_of _ (text_by (column row 2)) x n.2 in
    let t = mapped_of _ (blob_by (column row 3)) x m.2 in
    record {
      number = number_is (rowid row) n.0 n.1 ∙ ap (λ (r : QueryRow). Int (pos r.number)) t.2;
      name = text_is (column row 2) m.0 m.1 ∙ ap (λ (r : QueryRow). Text r.name) t.2;
      text = blob_is (column row 3) t.0 t.1 ∙ ap (λ (r : QueryRow). Blob r.text) t.2;
    }

-- a row that is read as a cursor is one
pub cursor_is : (row : Row) (x : CursorRow) → cursor_in row ≡ Some x → IsCursor row x
cursor_is row x h =
    let n = some_of _ (number_by (rowid row)) x h in
    let m = some_of _ (text_by (column row 2)) x n.2 in
    let p = mapped_of _ (option_and_then spelt_place (blob_by (column row 3))) x m.2 in
    let b = some_of spelt_place (blob_by (column row 3)) p.0 p.1 in
    record {
      number = number_is (rowid row) n.0 n.1 ∙ ap (λ (r : CursorRow). Int (pos r.number)) p.2;
      name = text_is (column row 2) m.0 m.1 ∙ ap (λ (r : CursorRow). Text r.name) p.2;
      bytes = b.0;
      blob = blob_is (column row 3) b.0 b.1;
      place = b.2 ∙ ap (λ (r : CursorRow). Some r.place) p.2;
    }

-- the rowid of a record is its number
pub record_keyed : (row : Row) (x : RecordRow) → record_in row ≡ Some x → rowid row ≡ Int (pos (record_number x))
record_keyed row x h = (record_is row x h).number

-- the rowid of a query is its number
pub query_keyed : (row : Row) (x : QueryRow) → query_in row ≡ Some x → rowid row ≡ Int (pos (query_number x))
query_keyed row x h = (query_is row x h).number

-- the rowid of a cursor is its number
pub cursor_keyed : (row : Row) (x : CursorRow) → cursor_in row ≡ Some x → rowid row ≡ Int (pos (cursor_number x))
cursor_keyed row x h = (cursor_is row x h).number

-- ---- rows that are written

pub record_made : (n : ℕ) (text : List ℕ) → n < 4294967296 → record_in (Int (pos n) ∷ Null ∷ Blob text ∷ []) ≡ Some (record { number = n; text = text })
record_made n text h = rw (lt-ltb n 4294967296 h)

pub query_made : (n : ℕ) (name text : List ℕ) → n < 4294967296 → query_in (Int (pos n) ∷ Null ∷ Text name ∷ Blob text ∷ []) ≡ Some (record { number = n; name = name; text = text })
query_made n name text h = rw (lt-ltb n 4294967296 h)

-- the row of a cursor is read as it
pub cursor_made : (n : ℕ) (name bytes place : List ℕ) → n < 4294967296 → spelt_place bytes ≡ Some place
    → cursor_in (Int (pos n) ∷ Null ∷ Text name ∷ Blob bytes ∷ []) ≡ Some (record { number = n; name = name; place = place })
cursor_made n name bytes place h is = rw (lt-ltb n 4294967296 h, is)

-- ---- edits

module _ {X : Type 0} (f : Row → Option X) (number : X → ℕ) (keyed : (r : Row) (x : X) → f r ≡ Some x → rowid r ≡ Int (pos (number x))) where
  -- a row that is put in the tree is put among what is read of it
  pub kept_put : (new : Row) (x : X) → f new ≡ Some x → (rows : List Row) (xs : List X) → IsKept f rows xs → IsKept f (put_row new rows) (put number x xs)
  kept_put new x is rows xs kept = record {
    shaped = IsShaped-put_row new rows (ap is_int (keyed new x is)) kept.shaped;
    read = read_put f number keyed new x is rows xs kept.read (rise_from_table f number keyed rows xs kept.read kept.shaped.0);
  }

  -- rows but for one number
  pub kept_without : (n : ℕ) (rows : List Row) (xs : List X) → IsKept f rows xs → IsKept f (without_rowid (pos n) rows) (without number n xs)
  kept_without n rows xs kept = record { shaped = IsShaped-filter Table _ rows kept.shaped; read = read_without f number keyed n rows xs kept.read }

  -- rows that pass a test, read as what passes it
  pub kept_filter : (p : Row → Bool) (q : X → Bool) → ((r : Row) (x : X) → f r ≡ Some x → p r ≡ q x) → (rows : List Row) (xs : List X) → IsKept f rows xs
      → IsKept f (Rattle.std.proofs.Common.filter p rows) (Rattle.std.proofs.Common.filter q xs)
  kept_filter p q same rows xs kept = record { shaped = IsShaped-filter Table p rows kept.shaped; read = read_filter f number keyed p q same rows xs kept.read }
