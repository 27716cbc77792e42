use Rattle.std.proofs.Common.{Ok, Err}
use Rattle.sqlite.specs.Held.{state}
use Rattle.sqlite.specs.Values.{bound}
use Rattle.mk_sqlite.proofs.InsideLemmas.{executed_keeps, executed_inside}
use Rattle.mk_sqlite.proofs.statements.send.Goals as goal

pub returns-in-Ok-clause-inside : goal.returns-in-Ok-clause-inside
returns-in-Ok-clause-inside g c clean inside =
    let old = state g.S.Store c.args.transaction.now.conn.now in
    let new = state g.S.Store c.execute.new.self.conn.now in
    let ran = c.in-Ok.ensures.runs clean inside in
    let step = executed_inside c.args.text.now (bound c.args.params.now) old new c.in-Ok.field-0 ran in
    (executed_keeps c.args.text.now (bound c.args.params.now) old new (Ok c.in-Ok.field-0) ran, (step.0, (c.in-Ok.field-0, step.1, ran.1.was_open)))

pub returns-in-Err-clause-inside : goal.returns-in-Err-clause-inside
returns-in-Err-clause-inside g c clean inside = (
  executed_keeps c.args.text.now (bound c.args.params.now) (state g.S.Store c.args.transaction.now.conn.now) (state g.S.Store c.execute.new.self.conn.now) (Err c.in-Err.error)
      (c.in-Err.ensures.runs clean inside),
  tt,
)
