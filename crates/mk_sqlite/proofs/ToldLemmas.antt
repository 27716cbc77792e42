-- The told tables, part by part.
use Rattle.std.proofs.Common.{◌≡◌, ◌&&◌, ℕ, ℤ, pos, Bool, true, false, cond, List, [], ◌∷◌, Option, Some}
use Rattle.std.proofs.Common.{None, option_map, option_and_then, refl, sym, ap, subst, ◌∙◌, Ordering, Less, Equal, Greater, is_lt, IsTrue}
use Rattle.std.specs.List.{AllZip, AllByRecursion}
use Rattle.std.proofs.lemmas.Bool.{and_parts, and_from}
use Rattle.sqlite_value.specs.Order.{Row, value_cmp}
use Rattle.sqlite_trees.specs.declared.store.Shape.TheVariants.{Table}
use Rattle.sqlite_trees.specs.Tree.{Trees, rowid, IsTable}
use Rattle.sqlite_trees.specs.View.{is_int, IsShaped}
use Rattle.sqlite.specs.Effect.{Database}
use Rattle.mk_outside.specs.declared.tables.Tables.{Tables}
use Rattle.mk_sqlite.specs.Layout.{Stage, schema_at, stage_of}
use Rattle.mk_sqlite.specs.Told.{record_in, query_in, cursor_in, next_in, all_of, records_at, queries_at, cursors_at, nexts_at}
use Rattle.mk_sqlite.specs.Told.{all_above, is_ordered, are_ordered, tables_at, tables_of, AreRead, IsKept, AreNext, IsTold}
use Rattle.mk_sqlite.proofs.LayoutLemmas.{stage_is, stage_again}

-- ---- rows in order

less_is : (o : Ordering) → is_lt o ≡ true → o ≡ Less
less_is Less h = refl
less_is Equal h = cc
less_is Greater h = cc

above_is : (row : Row) (rows : List Row) → all_above row rows ≡ true → AllByRecursion (λ s. value_cmp (rowid row) (rowid s) ≡ Less) rows
above_is row [] h = tt
above_is row (s ∷ rows) h = let p = and_parts _ _ h in (less_is _ p.0, above_is row rows p.1)

is_above : (row : Row) (rows : List Row) → AllByRecursion (λ s. value_cmp (rowid row) (rowid s) ≡ Less) rows → all_above row rows ≡ true
is_above row [] h = refl
is_above row (s ∷ rows) h = and_from _ _ (ap is_lt h.0) (is_above row rows h.1)

-- rows that pass the test are those of a tree
pub ordered_is : (rows : List Row) → is_ordered rows ≡ true → IsShaped Table rows
ordered_is [] h = (tt, tt)
ordered_is (row ∷ rows) h =
    let p = and_parts _ _ h in
    let q = and_parts _ _ p.1 in
    let more = ordered_is rows q.1 in
    ((above_is row rows q.0, more.0), (p.0, more.1))

is_ordered_if : (rows : List Row) → IsShaped Table rows → is_ordered rows ≡ true
is_ordered_if [] h = refl
is_ordered_if (row ∷ rows) h = and_from _ _ h.1.0 (and_from _ _ (is_above row rows h.0.0) (is_ordered_if rows (h.0.1, h.1.1)))

-- ---- rows that are read

-- where the whole has a value its first part has one
pub some_of : {A B : Type 0} (f : A → Option B) (o : Option A) (b : B) → option_and_then f o ≡ Some b → (a : A) × (o ≡ Some a) × (f a ≡ Some b)
some_of f None b h = cc
some_of f (Some a) b h = (a, refl, h)

-- where what is made of a value is there the value is
pub mapped_of : {A B : Type 0} (f : A → B) (o : Option A) (b : B) → option_map f o ≡ Some b → (a : A) × (o ≡ Some a) × (f a ≡ b)
mapped_of f None b h = cc
mapped_of f (Some a) b h = (a, refl, cc)

module _ {X : Type 0} (f : Row → Option X) where
  -- rows that all have a form are read one by one
  pub read_from_all : (rows : List Row) (xs : List X) → all_of f rows ≡ Some xs → AreRead f rows xs
  read_from_all [] [] h = tt
  read_from_all [] (x ∷ xs) h = cc
  read_from_all (r ∷ rows) xs h =
      let first = some_of (λ x. option_map (λ ys. x ∷ ys) (all_of f rows)) (f r) xs h in
      let rest = mapped_of (λ ys. first.0 ∷ ys) (all_of f rows) xs first.2 in
      subst (AreRead f (r ∷ rows)) rest.2 (first.1, read_from_all rows rest.0 rest.1)

  -- rows that are read one by one all have a form
  pub all_from_read : (rows : List Row) (xs : List X) → AreRead f rows xs → all_of f rows ≡ Some xs
  all_from_read [] [] h = refl
  all_from_read [] (x ∷ xs) h = absurd h
  all_from_read (r ∷ rows) [] h = absurd h
  all_from_read (r ∷ rows) (x ∷ xs) h = rw (h.0, all_from_read rows xs h.1)

if_then : {A : Type 0} (b : Bool) (o : Option A) (t : A) → cond b o None ≡ Some t → (b ≡ true) × (o ≡ Some t)
if_then true o t h = (refl, h)
if_then false o t h = cc

at_told : (stage : Stage) (db : Trees) (t : Tables) → are_ordered stage db ≡ true → tables_at stage db ≡ Some t → IsTold stage db t
at_told stage db t ordered h =
    let p = and_parts _ _ ordered in
    let p1 = and_parts _ _ p.1 in
    let p2 = and_parts _ _ p1.1 in
    let r = some_of _ (all_of record_in (records_at stage db)) t h in
    let q = some_of _ (all_of query_in (queries_at stage db)) t r.2 in
    let c = some_of _ (all_of cursor_in (cursors_at stage db)) t q.2 in
    let n = some_of _ (next_in (pos 1) (nexts_at stage db)) t c.2 in
    let m = some_of _ (next_in (pos 2) (nexts_at stage db)) t n.2 in
    let whole : Tables = record { records = r.0; queries = q.0; cursors = c.0; next_record = n.0; next_cursor = m.0 } in
    let is : whole ≡ t = let e = m.2 in cc in
    subst (IsTold stage db) is (record {
      records = record { shaped = ordered_is _ p.0; read = read_from_all record_in (records_at stage db) r.0 r.1 };
      queries = record { shaped = ordered_is _ p1.0; read = read_from_all query_in (queries_at stage db) q.0 q.1 };
      cursors = record { shaped = ordered_is _ p2.0; read = read_from_all cursor_in (cursors_at stage db) c.0 c.1 };
      nexts = record { shaped = ordered_is _ p2.1; for_records = n.1; for_cursors = m.1 };
    })

-- trees that tell tables have them
pub told_at : (stage : Stage) (db : Trees) (t : Tables) → IsTold stage db t → tables_at stage db ≡ Some t
told_at stage db t h =
    rw (
      all_from_read record_in (records_at stage db) t.records h.records.read,
      all_from_read query_in (queries_at stage db) t.queries h.queries.read,
      all_from_read cursor_in (cursors_at stage db) t.cursors h.cursors.read,
      h.nexts.for_records,
      h.nexts.for_cursors,
    )

ordered_at : (stage : Stage) (db : Trees) (t : Tables) → IsTold stage db t → are_ordered stage db ≡ true
ordered_at stage db t h =
    and_from _ _ (is_ordered_if _ h.records.shaped) (and_from _ _ (is_ordered_if _ h.queries.shaped) (and_from _ _ (is_ordered_if _ h.cursors.shaped) (is_ordered_if _ h.nexts.shaped)))

-- a database that stands for tables has one of the schemas, and its trees tell them
pub told_is : (db : Database) (t : Tables) → tables_of db ≡ Some t → (stage : Stage) × (db.schema ≡ schema_at stage) × IsTold stage db.trees t
unfolding tables_of
told_is db t h =
    let s = some_of (λ stage. cond (are_ordered stage db.trees) (tables_at stage db.trees) None) (stage_of db.schema) t h in
    let b = if_then (are_ordered s.0 db.trees) (tables_at s.0 db.trees) t s.2 in
    (s.0, stage_is db.schema s.0 s.1, at_told s.0 db.trees t b.0 b.1)

-- trees of a known schema that tell tables stand for them
pub is_told : (stage : Stage) (db : Database) (t : Tables) → db.schema ≡ schema_at stage → IsTold stage db.trees t → tables_of db ≡ Some t
unfolding tables_of
is_told stage db t has h = rw (ap stage_of has ∙ stage_again stage, ordered_at stage db.trees t h) (told_at stage db.trees t h)
