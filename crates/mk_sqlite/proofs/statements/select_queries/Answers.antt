use Rattle.std.proofs.Common.{[]}
use Rattle.sqlite.specs.State.{Shown}
use Rattle.sqlite.specs.Held.{state}
use Rattle.mk_outside.specs.declared.answers.KeepFail.{KeepFail}
use Rattle.mk_sqlite.proofs.InsideLemmas.{inside_stopped, inside_with}
use Rattle.mk_sqlite.proofs.TextLemmas.{whole, select_queries, select_queries_plain}
use Rattle.mk_sqlite.proofs.SelectLemmas.{selects_queries, shown_plain}
use Rattle.mk_sqlite.proofs.statements.select_queries.Goals as goal

pub returns-in_err-rows-clause-inside : goal.returns-in_err-rows-clause-inside
returns-in_err-rows-clause-inside g c = inside_stopped _ _ _ _ _ _ c.from_residual.ensures.0 c.show.ensures.inside

pub returns-clause-inside : goal.returns-clause-inside
returns-clause-inside g c =
    let old = state g.S.Store c.args.transaction.now.conn.now in
    let new = state g.S.Store c.show.new.transaction.conn.now in
    let rows = c.in_ok-rows.rows.items in
    inside_with KeepFail old new c.in_ok-rows.rows c.queries_of.result (λ it. Shown select_queries [] old new it.items) _ _ c.queries_of.ensures.read
    (λ it shown read at. (
      selects_queries old new rows it at shown (rw c.as_slice.ensures.value at read),
      (shown_plain select_queries [] old new whole at.schema select_queries_plain rows shown).0.now_is,
    )) c.in_ok-rows.ensures.inside
