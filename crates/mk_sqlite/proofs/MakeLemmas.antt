-- What the statements that make the tables leave.
use Rattle.std.proofs.Common.{◌≡◌, ◌⊎◌, inl, inr, ℕ, List, [], ◌∷◌, Bool, false, Some, None, Ok, Err, Result, refl, sym, ap, subst, ◌∙◌}
use Rattle.std.specs.List.{AllByRecursion}
use Rattle.std.specs.Fmt.{digits}
use Rattle.sqlite_trees.specs.Tree.{Trees}
use Rattle.sqlite_schema.specs.declared.schema.Schema.{Schema}
use Rattle.sqlite_schema.specs.declared.schema.Table.{Table}
use Rattle.sqlite_schema.specs.declared.command.Command.TheVariants.{CreateTable, Nothing}
use Rattle.sqlite.specs.Change.{created, next_tree}
use Rattle.sqlite.specs.Does.{Tally, lacks_sequence}
use Rattle.sqlite.specs.Listing.{understood}
use Rattle.sqlite.specs.Effect.{Database, IsDatabase}
use Rattle.sqlite.specs.State.{State, Writes, Executes, IsUnchanged}
use Rattle.sqlite.proofs.Callers.{runs_as}
use Rattle.mk_sqlite.specs.Layout.{records, queries, cursors, nexts, Stage, no_table, one_table, two_tables, three_tables, all_tables, schema_at}
use Rattle.mk_sqlite.specs.Told.{records_at, queries_at, cursors_at, nexts_at}
use Rattle.mk_sqlite.specs.Steps.{HasTables, HaveSameRows, Moves, with_one, with_two, with_three, with_all}
use Rattle.mk_sqlite.proofs.MakeTextLemmas
use Rattle.mk_sqlite.proofs.MakeTextLemmas.{MakesTable, FindsTable, treeless}
use Rattle.mk_sqlite.proofs.WriteLemmas.{went, same_value}

-- a table more, with no rows
record IsMade (before after : Stage) (old new : Database) : Type 0 where
  schema : new.schema ≡ schema_at after
  sound : IsDatabase new
  empty : new.trees (next_tree (schema_at before)) ≡ []
  others : AllByRecursion (λ (t : Table). new.trees t.tree ≡ old.trees t.tree) (schema_at before).tables

made : (before after : Stage) (text : List ℕ) (table : Table) → MakesTable before text table → created (schema_at before) table ≡ schema_at after → lacks_sequence (schema_at after) ≡ false
    → (old new : State) (count : ℕ) → old.now.schema ≡ schema_at before → Executes text [] old new (Ok count) → IsMade before after old.now new.now
made before after text table it makes plain old new count has ran =
    let w = subst (λ t. Writes old new None CreateTable t [] count) it.statement (runs_as text [] old new (schema_at before) has CreateTable it.command it.plain count ran) in
    let all = went w.changed in
    let first = went all.1 in
    let create = first.1 in
    let both : Ok create.table ≡ Ok table = sym create.defined ∙ it.defined in
    let same : create.table ≡ table = cc in
    let schema : first.0.schema ≡ schema_at after = create.is ∙ ap (λ s. created s create.table) has ∙ ap (created (schema_at before)) same ∙ makes in
    let no_sequence : lacks_sequence first.0.schema ≡ false = ap lacks_sequence schema ∙ plain in
    let now : new.now ≡ first.0 = ap (λ (p : Tally × Database). p.1) (same_value all.2) ∙ same_value (rw no_sequence at first.2) in
    record {
      schema = ap (λ (d : Database). d.schema) now ∙ schema;
      sound = w.sound;
      empty = subst (λ (d : Database). d.trees (next_tree (schema_at before)) ≡ []) (sym now) (subst (λ s. first.0.trees (next_tree s) ≡ []) has create.empty);
      others = subst (λ (d : Database). AllByRecursion (λ (t : Table). d.trees t.tree ≡ old.now.trees t.tree) (schema_at before).tables) (sym now)
          (subst (λ (s : Schema). AllByRecursion (λ (t : Table). first.0.trees t.tree ≡ old.now.trees t.tree) s.tables) has create.others);
    }

-- so many tables are there, with the rows as they were
abbrev Moved : Stage → Database → Stage → Database → Type 0
Moved before old after new = HasTables after new × HaveSameRows before old.trees after new.trees

stays : (stage : Stage) (text : List ℕ) → FindsTable stage text → (old new : State) (count : ℕ) → Executes text [] old new (Ok count) → HasTables stage old.now → Moved stage old.now stage new.now
stays stage text it old new count ran at =
    let same : IsUnchanged old new = (runs_as text [] old new (schema_at stage) at.schema Nothing it.command it.plain count ran).0 in
    let now : new.now ≡ old.now = same.0.now_is in (
      subst (HasTables stage) (sym now) at,
      record {
        records = ap (λ (db : Database). records_at stage db.trees) now;
        queries = ap (λ (db : Database). queries_at stage db.trees) now;
        cursors = ap (λ (db : Database). cursors_at stage db.trees) now;
        nexts = ap (λ (db : Database). nexts_at stage db.trees) now;
      },
    )

-- the making of the records
pub moves_one : (old new : State) (count : ℕ) → Executes MakeTextLemmas.make_records [] old new (Ok count) → Moves (λ stage. stage) with_one old.now new.now
moves_one old new count ran no_table at =
    let m = made no_table one_table MakeTextLemmas.make_records (treeless records) MakeTextLemmas.records_made refl refl old new count at.schema ran in
    (record { schema = m.schema; sound = m.sound }, record { records = m.empty; queries = refl; cursors = refl; nexts = refl })
moves_one old new count ran one_table at = stays one_table _ MakeTextLemmas.records_found_1 old new count ran at
moves_one old new count ran two_tables at = stays two_tables _ MakeTextLemmas.records_found_2 old new count ran at
moves_one old new count ran three_tables at = stays three_tables _ MakeTextLemmas.records_found_3 old new count ran at
moves_one old new count ran all_tables at = stays all_tables _ MakeTextLemmas.records_found_4 old new count ran at

second : (old new : State) (count : ℕ) → Executes MakeTextLemmas.make_queries [] old new (Ok count) → HasTables one_table old.now → Moved one_table old.now two_tables new.now
unfolding digits
second old new count ran at =
    let m = made one_table two_tables MakeTextLemmas.make_queries (treeless queries) MakeTextLemmas.queries_made refl refl old new count at.schema ran in
    (record { schema = m.schema; sound = m.sound }, record { records = m.others.0; queries = m.empty; cursors = refl; nexts = refl })

-- the making of the queries
pub moves_two : (old new : State) (count : ℕ) → Executes MakeTextLemmas.make_queries [] old new (Ok count) → Moves with_one with_two old.now new.now
moves_two old new count ran no_table at = second old new count ran at
moves_two old new count ran one_table at = second old new count ran at
moves_two old new count ran two_tables at = stays two_tables _ MakeTextLemmas.queries_found_2 old new count ran at
moves_two old new count ran three_tables at = stays three_tables _ MakeTextLemmas.queries_found_3 old new count ran at
moves_two old new count ran all_tables at = stays all_tables _ MakeTextLemmas.queries_found_4 old new count ran at

third : (old new : State) (count : ℕ) → Executes MakeTextLemmas.make_cursors [] old new (Ok count) → HasTables two_tables old.now → Moved two_tables old.now three_tables new.now
third old new count ran at =
    let m = made two_tables three_tables MakeTextLemmas.make_cursors (treeless cursors) MakeTextLemmas.cursors_made refl refl old new count at.schema ran in
    (record { schema = m.schema; sound = m.sound }, record { records = m.others.0; queries = m.others.1.0; cursors = m.empty; nexts = refl })

-- the making of the cursors
pub moves_three : (old new : State) (count : ℕ) → Executes MakeTextLemmas.make_cursors [] old new (Ok count) → Moves with_two with_three old.now new.now
moves_three old new count ran no_table at = third old new count ran at
moves_three old new count ran one_table at = third old new count ran at
moves_three old new count ran two_tables at = third old new count ran at
moves_three old new count ran three_tables at = stays three_tables _ MakeTextLemmas.cursors_found_3 old new count ran at
moves_three old new count ran all_tables at = stays all_tables _ MakeTextLemmas.cursors_found_4 old new count ran at

last : (old new : State) (count : ℕ) → Executes MakeTextLemmas.make_nexts [] old new (Ok count) → HasTables three_tables old.now → Moved three_tables old.now all_tables new.now
last old new count ran at =
    let m = made three_tables all_tables MakeTextLemmas.make_nexts (treeless nexts) MakeTextLemmas.nexts_made refl refl old new count at.schema ran in
    (record { schema = m.schema; sound = m.sound }, record { records = m.others.0; queries = m.others.1.0; cursors = m.others.1.1.0; nexts = m.empty })

-- the making of the next numbers
pub moves_four : (old new : State) (count : ℕ) → Executes MakeTextLemmas.make_nexts [] old new (Ok count) → Moves with_three with_all old.now new.now
moves_four old new count ran no_table at = last old new count ran at
moves_four old new count ran one_table at = last old new count ran at
moves_four old new count ran two_tables at = last old new count ran at
moves_four old new count ran three_tables at = last old new count ran at
moves_four old new count ran all_tables at = stays all_tables _ MakeTextLemmas.nexts_found_4 old new count ran at
