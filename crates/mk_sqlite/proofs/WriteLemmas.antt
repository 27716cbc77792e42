-- What a deletion and an upsert leave of a table that has an INTEGER PRIMARY KEY and no foreign key.
use Rattle.std.proofs.Common.{◌≡◌, ◌≢◌, ◌⊎◌, inl, inr, ℕ, ◌/◌, ℤ, pos, List, [], ◌∷◌, ◌++◌, length, map, Bool}
use Rattle.std.proofs.Common.{true, false, cond, drop, Option, Some, None, Ok, Err, Result, slice_get, refl, sym, ap, subst, ◌∙◌, append-nil}
use Rattle.std.specs.List.{AllByRecursion}
use Rattle.sqlite_value.specs.declared.value.Value.TheVariants.{Int}
use Rattle.sqlite_value.specs.declared.keys.Order.{Order}
use Rattle.sqlite_value.specs.Order.{Row}
use Rattle.sqlite_trees.specs.Tree.{Trees, rowid, put_row}
use Rattle.sqlite_sql.specs.Term.{Term}
use Rattle.sqlite_sql.specs.Query.{Query, IsAnswer}
use Rattle.sqlite_sql.specs.Program.{overlay}
use Rattle.sqlite_schema.specs.declared.schema.Column.{Column}
use Rattle.sqlite_schema.specs.declared.schema.Table.{Table}
use Rattle.sqlite_schema.specs.declared.schema.Schema.{Schema}
use Rattle.sqlite_schema.specs.declared.schema.Keys.{Keys}
use Rattle.sqlite_schema.specs.declared.command.Command.{Command}
use Rattle.sqlite_schema.specs.declared.command.Command.TheVariants.{Delete, InsertOr}
use Rattle.sqlite_schema.specs.declared.command.Conflict.TheVariants.{Abort}
use Rattle.sqlite_schema.specs.declared.command.Source.TheVariants.{Values}
use Rattle.sqlite_schema.specs.declared.command.Upsert.{Upsert}
use Rattle.sqlite_rules.specs.declared.error.Refusal.{Refusal}
use Rattle.sqlite_rules.specs.declared.error.Rowids.TheVariants.{Chosen, Given}
use Rattle.sqlite_rules.specs.Cast.{cast_row}
use Rattle.sqlite_rules.specs.Keys.{AreConflicts}
use Rattle.sqlite_rules.specs.Edit.{Edit, edit_of, edited, taken_by, without_all, put_all, with_rowid, numbered, Applies}
use Rattle.sqlite_rules.specs.Action.{works}
use Rattle.sqlite_rules.specs.Calls.{ids_of}
use Rattle.sqlite_rules.specs.Lists.{Has}
use Rattle.sqlite_rules.proofs.PlaceLemmas.{given}
use Rattle.sqlite.specs.declared.error.Error.{Error}
use Rattle.sqlite.specs.Effect.{Database, IsDatabase, value_rows}
use Rattle.sqlite.specs.Rows.{Written, Task, Puts, Clears, Upserts, Meets, Judged, Tries, TriesEach, nothing, count_of, stamped, shown}
use Rattle.sqlite.specs.Does.{Tally, Does, AtPlace, OnRows}
use Rattle.sqlite.specs.Listing.{understood}
use Rattle.sqlite.specs.State.{State, mode_of, Executes}
use Rattle.sqlite.proofs.Callers.{IsPlain, command_of, statement_of, runs_as, one_step}
use Rattle.mk_sqlite.specs.Layout.{table_of}

-- a part that gave a value did not stop on the way
pub went : {B E R : Type 0} {b : B} {Stops : E → Type 0} → ((stop : E) × Stops stop × (Ok b ≡ Err stop)) ⊎ R → R
went (inl stopped) = absurd (let e = stopped.2 in cc)
went (inr on) = on

pub same_value : {B E : Type 0} {a b : B} → ◌≡◌ {A = Result B E} (Ok a) (Ok b) → a ≡ b
same_value e = cc

-- one tree has these rows, and each other table and the schema are as they were
pub record Sets (schema : Schema) (tree : ℕ) (rows : List Row) (old : Trees) (new : Database) : Type 0 where
  pub schema_is : new.schema ≡ schema
  pub sound : IsDatabase new
  pub rows_are : new.trees tree ≡ rows
  pub others : AllByRecursion (λ (t : Table). t.tree ≢ tree → new.trees t.tree ≡ old t.tree) schema.tables

module _ (schema : Schema) (name : List ℕ) (tree : ℕ) (columns : List Column) (uniques : List (List ℕ)) (orders : List Order) (at : ℕ) where
  -- the table that is written
  abbrev pub table : Table
  table = record (table_of name tree columns) { uniques = uniques; orders = orders }

  -- an edit of the table is all that a step does
  sets : (keys : Keys) (db next : Trees) (edit : Edit) (new : Database) → IsDatabase new → edit.table ≡ table → Applies schema keys db edit next → new ≡ record { schema = schema; trees = next } →
      Sets schema tree (edited db edit) db new
  sets keys db next edit new sound on applied is =
      let trees : new.trees ≡ next = ap (λ (d : Database). d.trees) is in
      let at_tree : edit.table.tree ≡ tree = ap (λ (t : Table). t.tree) on in
      record {
        schema_is = ap (λ (d : Database). d.schema) is;
        sound = sound;
        rows_are = subst (λ n. new.trees n ≡ edited db edit) at_tree (ap (λ (t : Trees). t edit.table.tree) trees ∙ applied.rows);
        others = subst (λ n. AllByRecursion (λ (t : Table). t.tree ≢ n → new.trees t.tree ≡ db t.tree) schema.tables) at_tree
            (subst (λ (t : Trees). AllByRecursion (λ (x : Table). x.tree ≢ edit.table.tree → t x.tree ≡ db x.tree) schema.tables) (sym trees) applied.tables);
      }

  module _ (listed : slice_get schema.tables at ≡ Some table) (free : (keys : Keys) (olds news : List Row) → works schema keys 0 tree olds news ≡ []) (text : List ℕ) (params : Row) (old new : State)
      (has : old.now.schema ≡ schema) (plain : IsPlain (understood schema text)) (count : ℕ) (ran : Executes text params old new (Ok count)) where
    abbrev db : Trees
    db = old.now.trees

    abbrev keys : Keys
    keys = (mode_of old).keys

    abbrev task : Task
    task = record { limit = old.step_limit; keys = keys; schema = schema; table = table; params = params }

    abbrev on_rows : Command → Tally × Database → Type 0
    on_rows command out = OnRows task (mode_of old) None command db (Ok out)

    -- what the statement writes, and what the database is then
    abbrev WritesRows : (Written → Type 0) → Type 0
    WritesRows P = (w : Written) × P w × (new.now ≡ record { schema = schema; trees = w.trees })

    -- ---- a deletion

    pub deletes : (body : Query) → command_of (understood schema text) ≡ Delete at (record { lets = []; body = body })
        → (found : List Row) × IsAnswer body (overlay db []) params found × Sets schema tree (without_all (db tree) (ids_of found)) db new.now
    deletes body is =
        let command : Command = Delete at (record { lets = []; body = body }) in
        let w = runs_as text params old new schema has command is plain count ran in
        let sql = statement_of text (understood schema text) in
        let on = subst (λ s. Does old.step_limit (mode_of old) params (record old.now { schema = s }) sql None command (Ok (w.tally, new.now))) has w.changed in
        let run = subst (λ o. AtPlace (λ (t : Table). OnRows (record { limit = old.step_limit; keys = keys; schema = schema; table = t; params = params }) (mode_of old) None command db) o
        (Ok (w.tally, new.now))) listed on in
        let done = went run in
        let now = ap (λ (p : Tally × Database). p.1) (same_value (went (went done.2).2).2) in
        let shown = went done.1 in
        let written = went shown.2 in
        let trees : done.0.trees ≡ written.0 = ap (λ (it : Written). it.trees) (same_value written.2) in
        let edit = edit_of db table (ids_of shown.0) Given 0 [] in
        let applied = one_step schema keys db written.0 edit (free keys (taken_by db edit) edit.news) written.1 in (
          shown.0,
          shown.1.answer Rattle.sqlite_value.specs.declared.value.Value.TheVariants.Null,
          sets keys db written.0 edit new.now w.sound refl applied (now ∙ ap (λ (t : Trees). record { schema = schema; trees = t }) trees),
        )

    -- ---- an upsert by rowid

    module _ (terms : List Term) (width : ℕ) (body : Query) (row : Row) (n : ℤ) (cast : cast_row table row ≡ row) (id : rowid row ≡ Int n) where
      abbrev clause : Upsert
      clause = record { target = Some (0 ∷ []); update = Some (record { lets = []; body = body }) }

      abbrev params_after : Row → Row
      params_after there = params ++ rowid there ∷ shown table row

      -- the row is put in, or the query shows what replaces the row that is there
      abbrev pub IsUpserted : List Row → (List Row → Type 0) → Type 0
      IsUpserted found P =
          ((found ≡ []) × P (put_row row (db tree)))
          ⊎ ((there : Row) × Has found there × (rows : List Row) × IsAnswer body (overlay db []) (params_after there) rows
          × P (put_all (without_all (db tree) (ids_of rows)) (map (λ s. cast_row table (drop 1 s)) rows)))

      -- what one row leaves, as trees
      abbrev Leaves : List Row → Trees → Type 0
      Leaves rows next = (edit : Edit) × (edit.table ≡ table) × Applies schema keys db edit next × (edited db edit ≡ rows)

      puts : (one : Written) → Puts task row db (Ok one) → Leaves (put_row row (db tree)) one.trees
      puts one h =
          let p = went h in
          let edit = edit_of db table [] Given 0 (row ∷ []) in
          let applied = one_step schema keys db p.0 edit (free keys (taken_by db edit) edit.news) p.1 in
          (edit, refl, subst (Applies schema keys db edit) (sym (ap (λ (w : Written). w.trees) (same_value p.2))) applied, ap (λ r. put_row r (db tree)) cast)

      clears : (found : List Row) (one : Written) → Clears task Abort row db found (Ok one) → Leaves (put_row row (db tree)) one.trees
      clears [] one h = puts one h
      clears (x ∷ more) one h = puts one h

      abbrev IsOne : List Row → Written → Type 0
      IsOne found one = IsUpserted found (λ rows. Leaves rows one.trees)

      meets : (found : List Row) (one : Written) → Meets task (Upserts task Abort row db []) row db clause found (Ok one) → IsOne found one
      meets [] one h = inl (refl, clears h.0 one h.2)
      meets (there ∷ more) one h =
          let asked = went h in
          let p = went asked.2 in
          let edit = edit_of db table (ids_of asked.0) Given 1 asked.0 in
          let applied = one_step schema keys db p.0 edit (free keys (taken_by db edit) edit.news) p.1 in
          let left = without_all (db tree) (ids_of asked.0) in
          let news = map (λ s. cast_row table (drop 1 s)) asked.0 in
          let rows : edited db edit ≡ put_all left news = ap (put_all left) (given left news) in
          inr (
            there,
            inl refl,
            asked.0,
            asked.1.answer Rattle.sqlite_value.specs.declared.value.Value.TheVariants.Null,
            (edit, refl, subst (Applies schema keys db edit) (sym (ap (λ (w : Written). w.trees) (same_value p.2))) applied, rows),
          )

      judged : (verdict : Option Refusal) (one : Written) → Judged task Abort (clause ∷ []) row db verdict (Ok one)
          → (found : List Row) × AreConflicts (Some (0 ∷ [])) schema.indexes table (db tree) row found × IsOne found one
      judged None one h = (h.0, h.1, meets h.0 one h.2)
      judged (Some why) one h = absurd cc

      tries : (one : Written) → Tries task Abort (clause ∷ []) row db (Ok one) → (found : List Row) × AreConflicts (Some (0 ∷ [])) schema.indexes table (db tree) row found × IsOne found one
      tries one (inl p) = absurd (let e = p.1 in cc)
      tries one (inr p) = judged p.0 one p.2

      its_rowid : (rows : List Row) → with_rowid Chosen rows (cast_row table row) ≡ row
      its_rowid rows = ap (with_rowid Chosen rows) cast ∙ rw id

      each : (top : ℤ) (out : Written × ℤ) → TriesEach task Abort (clause ∷ []) (row ∷ []) top (nothing db) (Ok out)
          → (found : List Row) × AreConflicts (Some (0 ∷ [])) schema.indexes table (db tree) row found × IsOne found out.0
      each top out h =
          let p = went h in
          let one = tries p.0 (subst (λ r. Tries task Abort (clause ∷ []) r db (Ok p.0)) (its_rowid (db tree)) p.1) in
          let trees : out.0.trees ≡ p.0.trees = ap (λ (o : Written × ℤ). o.0.trees) (same_value p.2) in
          (one.0, one.1, subst (λ (t : Trees). IsUpserted one.0 (λ rows. Leaves rows t)) (sym trees) one.2)

      -- what an INSERT with ON CONFLICT DO UPDATE makes of the rows
      pub upserts : value_rows params width (length terms / width) terms ≡ row ∷ []
          → command_of (understood schema text) ≡ InsertOr at Abort (Values terms width) (clause ∷ [])
          → (found : List Row) × AreConflicts (Some (0 ∷ [])) schema.indexes table (db tree) row found × IsUpserted found (λ rows. Sets schema tree rows db new.now)
      upserts source is =
          let command : Command = InsertOr at Abort (Values terms width) (clause ∷ []) in
          let w = runs_as text params old new schema has command is plain count ran in
          let sql = statement_of text (understood schema text) in
          let on = subst (λ s. Does old.step_limit (mode_of old) params (record old.now { schema = s }) sql None command (Ok (w.tally, new.now))) has w.changed in
          let run = subst (λ o. AtPlace (λ (t : Table). OnRows (record { limit = old.step_limit; keys = keys; schema = schema; table = t; params = params }) (mode_of old) None command db) o
          (Ok (w.tally, new.now))) listed on in
          let done = went run in
          let now = ap (λ (p : Tally × Database). p.1) (same_value (went (went done.2).2).2) in
          let sourced = went done.1 in
          let counter = went sourced.2 in
          let tried = went counter.2 in
          let counts = went tried.2 in
          let rows : sourced.0 ≡ row ∷ [] = sourced.1.1 ∙ ap (λ p. value_rows p width (length terms / width) terms) (append-nil params) ∙ source in
          let one = each (count_of counter.0) tried.0 (subst (λ rs. TriesEach task Abort (clause ∷ []) rs (count_of counter.0) (nothing db) (Ok tried.0)) rows tried.1) in
          let trees : done.0.trees ≡ tried.0.0.trees = ap (λ (it : Written). it.trees) (same_value counts.2) ∙ same_value counts.1 in
          let is_now : new.now ≡ record { schema = schema; trees = tried.0.0.trees } = now ∙ ap (λ (t : Trees). record { schema = schema; trees = t }) trees in
          let whole = λ (rows : List Row) (l : Leaves rows tried.0.0.trees). subst (λ rs. Sets schema tree rs db new.now) l.3 (sets keys db tried.0.0.trees l.0 new.now w.sound l.1 l.2 is_now) in
          (one.0, one.1, elim one.2 [ inl fresh ↦ inl (fresh.0, whole _ fresh.1) | inr there ↦ inr (there.0, there.1, there.2, there.3, whole _ there.4) ])
