use Rattle.std.proofs.Common.{◌≡◌}
use Rattle.sqlite_trees.specs.declared.store.Shape.TheVariants.{Table}
use Rattle.sqlite_trees.specs.View.{IsShaped}
use Rattle.sqlite.specs.Effect.{Database}
use Rattle.mk_sqlite.specs.Layout.{all_tables}
use Rattle.mk_sqlite.specs.Told.{record_in, query_in, cursor_in, AreRead}
use Rattle.mk_sqlite.specs.Steps.{HasTables}
use Rattle.mk_sqlite.proofs.MovesLemmas.{read_still}
use Rattle.sqlite.specs.Held.{state}
use Rattle.mk_sqlite.proofs.InsideLemmas.{inside_stopped, both_stopped, went_both}
use Rattle.mk_sqlite.proofs.changes.select_rows.Goals as goal

pub returns-in_err-records-clause-inside : goal.returns-in_err-records-clause-inside
returns-in_err-records-clause-inside g c = inside_stopped _ _ _ _ _ _ c.from_residual.ensures.0 c.select_records.ensures.inside

pub returns-in_err-queries-clause-inside : goal.returns-in_err-queries-clause-inside
returns-in_err-queries-clause-inside g c =
    both_stopped (state g.S.Store c.args.transaction.now.conn.now) (state g.S.Store c.select_records.new.transaction.conn.now) (state g.S.Store c.select_queries.new.transaction.conn.now) _ _ _ _
    _ c.select_queries.ensures.survives.clean c.from_residual-in_err-queries.ensures.0 c.in_ok-records.ensures.inside c.select_queries.ensures.inside

pub returns-in_err-cursors-clause-inside : goal.returns-in_err-cursors-clause-inside
returns-in_err-cursors-clause-inside g c =
    let two = went_both (state g.S.Store c.args.transaction.now.conn.now) (state g.S.Store c.select_records.new.transaction.conn.now) (state g.S.Store c.select_queries.new.transaction.conn.now) _
    _ (Unit {0}) c.select_queries.ensures.survives.clean (λ _ _. tt) c.in_ok-records.ensures.inside c.in_ok-queries.ensures.inside in
    both_stopped (state g.S.Store c.args.transaction.now.conn.now) (state g.S.Store c.select_queries.new.transaction.conn.now) (state g.S.Store c.select_cursors.new.transaction.conn.now) _ _ _ _
    _ c.select_cursors.ensures.survives.clean c.from_residual-in_err-cursors.ensures.0 two c.select_cursors.ensures.inside

pub returns-clause-inside : goal.returns-clause-inside
returns-clause-inside g c =
    let old = state g.S.Store c.args.transaction.now.conn.now in
    let first = state g.S.Store c.select_records.new.transaction.conn.now in
    let second = state g.S.Store c.select_queries.new.transaction.conn.now in
    let last = state g.S.Store c.select_cursors.new.transaction.conn.now in
    let records = λ (db : Database). IsShaped Table (db.trees 0) → AreRead record_in (db.trees 0) c.in_ok-records.records in
    let queries = λ (db : Database). IsShaped Table (db.trees 1) → AreRead query_in (db.trees 1) c.in_ok-queries.queries in
    let cursors = λ (db : Database). IsShaped Table (db.trees 3) → AreRead cursor_in (db.trees 3) c.in_ok-cursors.cursors in
    let two = went_both old first second _ _ (HasTables all_tables old.now → records old.now × queries old.now × (second.now ≡ old.now)) c.select_queries.ensures.survives.clean
    (λ one more at. let r = one at in let q = read_still old.now first.now second.now queries r.1 more at in (r.0, q.0, q.1)) c.in_ok-records.ensures.inside c.in_ok-queries.ensures.inside in
    went_both old second last _ _ _ c.select_cursors.ensures.survives.clean
    (λ both more at. let b = both at in let m = read_still old.now second.now last.now cursors b.2 more at in (b.0, b.1, m.0, m.1)) two c.in_ok-cursors.ensures.inside
