use Rattle.sqlite.specs.Held.{state}
use Rattle.std.proofs.Common.{sym, subst}
use Rattle.mk_sqlite.specs.Steps.{IsWhole}
use Rattle.mk_sqlite.proofs.MovesLemmas.{moves_at, loads_made}
use Rattle.mk_sqlite.proofs.InsideLemmas.{inside_stopped, inside_both}
use Rattle.mk_sqlite.proofs.changes.load_inside.Goals as goal

pub returns-in_err-make_tables-clause-inside : goal.returns-in_err-make_tables-clause-inside
returns-in_err-make_tables-clause-inside g c = inside_stopped _ _ _ _ _ _ c.from_residual.ensures.0 c.make_tables.ensures.inside

pub returns-clause-inside : goal.returns-clause-inside
returns-clause-inside g c =
    let old = state g.S.Store c.args.transaction.now.conn.now in
    let mid = state g.S.Store c.make_tables.new.transaction.conn.now in
    let new = state g.S.Store c.select_tables.new.transaction.conn.now in
    inside_both old mid new c.select_tables.result _ _ _ c.select_tables.ensures.survives.clean
    (λ made it read. (
      λ stage t at.
          let whole = moves_at old.now mid.now made.1 stage t at in
          subst (λ db. IsWhole db t) (sym (read (record { schema = whole.schema; sound = whole.sound })).1) whole,
      (made.0, loads_made old.now mid.now it made.1 (λ has. (read has).0)),
    )) c.in_ok-make_tables.ensures.inside c.select_tables.ensures.inside
