use Rattle.std.proofs.Common.{arith}
use Rattle.mk_sqlite.proofs.InsideLemmas.{inside_as}
use Rattle.mk_sqlite.proofs.StatementLemmas.{puts_cursor}
use Rattle.mk_sqlite.proofs.statements.put_cursor.Goals as goal

pub returns-clause-inside : goal.returns-clause-inside
returns-clause-inside g c = inside_as _ _ _ _ _ (λ _ ran. λ place read. puts_cursor _ _ c.args.number c.args.name.now c.args.place.now place ran.0 (omega arith) read
    (rw (c.params-to_sql.ensures, c.params-to_sql-2.ensures, c.params-to_sql-3.ensures) at ran.1)) c.send.ensures.inside
