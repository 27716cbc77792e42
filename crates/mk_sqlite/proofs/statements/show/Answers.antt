use Rattle.sqlite.specs.Held.{state}
use Rattle.sqlite.specs.Values.{bound}
use Rattle.mk_sqlite.proofs.InsideLemmas.{shown_inside, refused_keeps}
use Rattle.mk_sqlite.proofs.statements.show.Goals as goal

pub returns-in-Ok-clause-inside : goal.returns-in-Ok-clause-inside
returns-in-Ok-clause-inside g c clean inside =
    let shown = c.in-Ok.ensures.ok clean in
    let step = shown_inside c.args.text.now (bound c.args.params.now) (state g.S.Store c.args.transaction.now.conn.now) (state g.S.Store c.query_all.new.self.conn.now) c.in-Ok.rows.items inside
    shown in
    (step.0, (step.1, shown))

pub returns-in-Err-clause-inside : goal.returns-in-Err-clause-inside
returns-in-Err-clause-inside g c clean inside = (
  refused_keeps c.args.text.now (bound c.args.params.now) (state g.S.Store c.args.transaction.now.conn.now) (state g.S.Store c.query_all.new.self.conn.now) c.in-Err.error
      (c.in-Err.ensures.err clean),
  tt,
)
