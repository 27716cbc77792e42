use Rattle.std.proofs.Common.{◌≡◌, pos, Some}
use Rattle.sqlite_trees.specs.declared.store.Shape.TheVariants.{Table}
use Rattle.sqlite_trees.specs.View.{IsShaped}
use Rattle.sqlite.specs.Effect.{Database}
use Rattle.mk_sqlite.specs.Told.{next_in}
use Rattle.mk_sqlite.proofs.MovesLemmas.{read_still}
use Rattle.sqlite.specs.Held.{state}
use Rattle.mk_sqlite.proofs.InsideLemmas.{inside_stopped, both_stopped, went_both}
use Rattle.mk_sqlite.proofs.changes.select_nexts.Goals as goal

pub returns-in_err-next_record-clause-inside : goal.returns-in_err-next_record-clause-inside
returns-in_err-next_record-clause-inside g c = inside_stopped _ _ _ _ _ _ c.from_residual.ensures.0 c.select_next_record.ensures.inside

pub returns-in_err-next_cursor-clause-inside : goal.returns-in_err-next_cursor-clause-inside
returns-in_err-next_cursor-clause-inside g c =
    both_stopped (state g.S.Store c.args.transaction.now.conn.now) (state g.S.Store c.select_next_record.new.transaction.conn.now) (state g.S.Store c.select_next_cursor.new.transaction.conn.now)
    _ _ _ _ _ c.select_next_cursor.ensures.survives.clean c.from_residual-in_err-next_cursor.ensures.0 c.in_ok-next_record.ensures.inside c.select_next_cursor.ensures.inside

pub returns-clause-inside : goal.returns-clause-inside
returns-clause-inside g c =
    let old = state g.S.Store c.args.transaction.now.conn.now in
    let mid = state g.S.Store c.select_next_record.new.transaction.conn.now in
    let last = state g.S.Store c.select_next_cursor.new.transaction.conn.now in
    let cursors = λ (db : Database). IsShaped Table (db.trees 4) → next_in (pos 2) (db.trees 4) ≡ Some c.in_ok-next_cursor.next_cursor in
    went_both old mid last _ _ _ c.select_next_cursor.ensures.survives.clean
    (λ one more at. let r = one at in let m = read_still old.now mid.now last.now cursors r.1 more at in (r.0, m.0, m.1)) c.in_ok-next_record.ensures.inside c.in_ok-next_cursor.ensures.inside
