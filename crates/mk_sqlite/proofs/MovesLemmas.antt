-- Rows that are the same once tables were made, and what they tell.
--     moves_then                     tables are made in two steps
--     moves_at                       the told tables are told still
--     loads_made                     what is read of the tables that were made was there before
use Rattle.std.proofs.Common.{◌≡◌, pos, true, List, Option, Some, refl, sym, ap, subst, ◌∙◌}
use Rattle.std.proofs.lemmas.Bool.{and_parts}
use Rattle.sqlite_trees.specs.declared.store.Shape.TheVariants.{Table}
use Rattle.sqlite_trees.specs.Tree.{Trees}
use Rattle.sqlite_trees.specs.View.{IsShaped}
use Rattle.sqlite.specs.Effect.{Database, IsDatabase}
use Rattle.mk_outside.specs.declared.tables.Tables.{Tables}
use Rattle.mk_sqlite.specs.Layout.{Stage, all_tables}
use Rattle.mk_sqlite.specs.Told.{record_in, query_in, cursor_in, are_ordered, next_in, AreRead, AreTablesOf, IsKept, AreNext, IsTold}
use Rattle.mk_sqlite.specs.Steps.{HasTables, AreShaped, HaveSameRows, IsAt, IsWhole, Moves, Loads, with_all}
use Rattle.mk_sqlite.proofs.LayoutLemmas.{stage_is}
use Rattle.mk_sqlite.proofs.ToldLemmas.{ordered_is, told_at, is_told}

-- rows that are the same stand in order still
pub same_shaped : (before after : Stage) (old new : Trees) → HaveSameRows before old after new → AreShaped before old → AreShaped after new
same_shaped before after old new same h = record {
  records = subst (IsShaped Table) (sym same.records) h.records;
  queries = subst (IsShaped Table) (sym same.queries) h.queries;
  cursors = subst (IsShaped Table) (sym same.cursors) h.cursors;
  nexts = subst (IsShaped Table) (sym same.nexts) h.nexts;
}

-- and tell the same
pub same_told : (before after : Stage) (old new : Trees) (t : Tables) → HaveSameRows before old after new → IsTold before old t → IsTold after new t
same_told before after old new t same h = record {
  records = subst (λ rows. IsKept record_in rows t.records) (sym same.records) h.records;
  queries = subst (λ rows. IsKept query_in rows t.queries) (sym same.queries) h.queries;
  cursors = subst (λ rows. IsKept cursor_in rows t.cursors) (sym same.cursors) h.cursors;
  nexts = subst (λ rows. AreNext rows t.next_record t.next_cursor) (sym same.nexts) h.nexts;
}

-- they are the same the other way
pub same_back : (before after : Stage) (old new : Trees) → HaveSameRows before old after new → HaveSameRows after new before old
same_back before after old new same = record { records = sym same.records; queries = sym same.queries; cursors = sym same.cursors; nexts = sym same.nexts }

-- tables are made in two steps
pub moves_then : (from mid to : Stage → Stage) (a b c : Database) → Moves from mid a b → Moves mid to b c → Moves from to a c
moves_then from mid to a b c one two stage at =
    let first = one stage at in
    let then = two stage first.0 in (
      then.0,
      record {
        records = then.1.records ∙ first.1.records;
        queries = then.1.queries ∙ first.1.queries;
        cursors = then.1.cursors ∙ first.1.cursors;
        nexts = then.1.nexts ∙ first.1.nexts;
      },
    )

-- the rows of told tables stand in order
pub told_shaped : (stage : Stage) (db : Trees) (t : Tables) → IsTold stage db t → AreShaped stage db
told_shaped stage db t h = record { records = h.records.shaped; queries = h.queries.shaped; cursors = h.cursors.shaped; nexts = h.nexts.shaped }

-- what is told once the tables were made
pub moves_at : (old new : Database) → Moves (λ stage. stage) with_all old new → (stage : Stage) (t : Tables) → IsAt stage old t → IsWhole new t
moves_at old new moves stage t at =
    let moved = moves stage (record { schema = at.schema; sound = at.sound }) in
    record { schema = moved.0.schema; sound = moved.0.sound; told = same_told stage all_tables old.trees new.trees t moved.1 at.told }

-- what is read of the tables that were made is what was there before
pub loads_made : (old new : Database) (loaded : Tables) → Moves (λ stage. stage) with_all old new
    → (HasTables all_tables new → AreShaped all_tables new.trees → IsTold all_tables new.trees loaded) → Loads old loaded
loads_made old new loaded moves reads stage at shaped =
    let moved = moves stage at in
    same_told all_tables stage new.trees old.trees loaded (same_back stage all_tables old.trees new.trees moved.1)
    (reads moved.0 (same_shaped stage all_tables old.trees new.trees moved.1 shaped))

-- told tables are told once
pub told_once : (stage : Stage) (db : Trees) (a b : Tables) → IsTold stage db a → IsTold stage db b → a ≡ b
told_once stage db a b p q = let same : ◌≡◌ {A = Option Tables} (Some a) (Some b) = sym (told_at stage db a p) ∙ told_at stage db b q in cc

-- what is loaded is what was told
pub loads_told : (old : Database) (loaded : Tables) → Loads old loaded → (stage : Stage) (t : Tables) → IsAt stage old t → loaded ≡ t
loads_told old loaded loads stage t at =
    told_once stage old.trees loaded t (loads stage (record { schema = at.schema; sound = at.sound }) (told_shaped stage old.trees t at.told)) at.told

-- what is read behind a step that changed nothing is read of what was there before
pub read_still : (a b c : Database) (P : Database → Type 0) → b ≡ a → (HasTables all_tables b → P b × (c ≡ b)) → HasTables all_tables a → P a × (c ≡ a)
read_still a b c P same h at = let it = h (subst (HasTables all_tables) (sym same) at) in (subst P same it.0, it.1 ∙ same)

-- the parts that are read are the tables
pub reads_tables : (db : Trees) (t : Tables) → (IsShaped Table (db 0) → AreRead record_in (db 0) t.records) → (IsShaped Table (db 1) → AreRead query_in (db 1) t.queries)
    → (IsShaped Table (db 3) → AreRead cursor_in (db 3) t.cursors)
    → (IsShaped Table (db 4) → next_in (pos 1) (db 4) ≡ Some t.next_record) → (IsShaped Table (db 4) → next_in (pos 2) (db 4) ≡ Some t.next_cursor)
    → AreShaped all_tables db → IsTold all_tables db t
reads_tables db t records queries cursors next_record next_cursor shaped = record {
  records = record { shaped = shaped.records; read = records shaped.records };
  queries = record { shaped = shaped.queries; read = queries shaped.queries };
  cursors = record { shaped = shaped.cursors; read = cursors shaped.cursors };
  nexts = record { shaped = shaped.nexts; for_records = next_record shaped.nexts; for_cursors = next_cursor shaped.nexts };
}

-- rows in order, by the test
pub shaped_if : (stage : Stage) (db : Trees) → are_ordered stage db ≡ true → AreShaped stage db
shaped_if stage db h =
    let p = and_parts _ _ h in
    let q = and_parts _ _ p.1 in
    let r = and_parts _ _ q.1 in
    record { records = ordered_is _ p.0; queries = ordered_is _ q.0; cursors = ordered_is _ r.0; nexts = ordered_is _ r.1 }

-- what is loaded are the tables of the database
pub loads_tables : (old : Database) (loaded : Tables) → Loads old loaded → IsDatabase old → AreTablesOf old loaded
loads_tables old loaded loads sound stage has ordered =
    let schema = stage_is old.schema stage has in
    is_told stage old loaded schema (loads stage (record { schema = schema; sound = sound }) (shaped_if stage old.trees ordered))
