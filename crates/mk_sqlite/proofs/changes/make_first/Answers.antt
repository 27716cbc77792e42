use Rattle.sqlite.specs.Held.{state}
use Rattle.mk_sqlite.specs.Steps.{with_one, with_two}
use Rattle.mk_sqlite.proofs.MovesLemmas.{moves_then}
use Rattle.mk_sqlite.proofs.InsideLemmas.{inside_stopped, inside_both}
use Rattle.mk_sqlite.proofs.changes.make_first.Goals as goal

pub returns-in_err-make_records-clause-inside : goal.returns-in_err-make_records-clause-inside
returns-in_err-make_records-clause-inside g c = inside_stopped _ _ _ _ _ _ c.from_residual.ensures.0 c.make_records.ensures.inside

pub returns-clause-inside : goal.returns-clause-inside
returns-clause-inside g c =
    let old = state g.S.Store c.args.transaction.now.conn.now in
    let mid = state g.S.Store c.make_records.new.transaction.conn.now in
    let last = state g.S.Store c.make_queries.new.transaction.conn.now in
    inside_both old mid last c.make_queries.result _ _ _ c.make_queries.ensures.survives.clean
    (λ one _ two. (one.0, moves_then (λ stage. stage) with_one with_two old.now mid.now last.now one.1 two.1)) c.in_ok-make_records.ensures.inside c.make_queries.ensures.inside
