use Rattle.sqlite.specs.Held.{state}
use Rattle.mk_sqlite.proofs.MovesLemmas.{moves_at}
use Rattle.mk_sqlite.proofs.InsideLemmas.{inside_stopped, inside_both}
use Rattle.mk_sqlite.proofs.changes.commit_inside.Goals as goal

pub returns-in_err-make_tables-clause-inside : goal.returns-in_err-make_tables-clause-inside
returns-in_err-make_tables-clause-inside g c = inside_stopped _ _ _ _ _ _ c.from_residual.ensures.0 c.make_tables.ensures.inside

pub returns-clause-inside : goal.returns-clause-inside
returns-clause-inside g c =
    let old = state g.S.Store c.args.transaction.now.conn.now in
    let mid = state g.S.Store c.make_tables.new.transaction.conn.now in
    let last = state g.S.Store c.make_all.new.transaction.conn.now in
    inside_both old mid last c.make_all.result _ _ _ c.make_all.ensures.survives.clean
    (λ made _ changed. (λ stage t at. changed t (moves_at old.now mid.now made.1 stage t at), made.0)) c.in_ok-make_tables.ensures.inside c.make_all.ensures.inside
