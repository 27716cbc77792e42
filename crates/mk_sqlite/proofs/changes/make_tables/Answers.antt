use Rattle.sqlite.specs.Held.{state}
use Rattle.mk_sqlite.specs.Steps.{with_two, with_all}
use Rattle.mk_sqlite.proofs.MovesLemmas.{moves_then}
use Rattle.mk_sqlite.proofs.InsideLemmas.{inside_stopped, inside_both}
use Rattle.mk_sqlite.proofs.changes.make_tables.Goals as goal

pub returns-in_err-make_first-clause-inside : goal.returns-in_err-make_first-clause-inside
returns-in_err-make_first-clause-inside g c = inside_stopped _ _ _ _ _ _ c.from_residual.ensures.0 c.make_first.ensures.inside

pub returns-clause-inside : goal.returns-clause-inside
returns-clause-inside g c =
    let old = state g.S.Store c.args.transaction.now.conn.now in
    let mid = state g.S.Store c.make_first.new.transaction.conn.now in
    let last = state g.S.Store c.make_others.new.transaction.conn.now in
    inside_both old mid last c.make_others.result _ _ _ c.make_others.ensures.survives.clean
    (λ one _ two. (one.0, moves_then (λ stage. stage) with_two with_all old.now mid.now last.now one.1 two.1)) c.in_ok-make_first.ensures.inside c.make_others.ensures.inside
