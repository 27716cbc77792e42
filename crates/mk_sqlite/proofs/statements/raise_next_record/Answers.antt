use Rattle.std.proofs.Common.{arith}
use Rattle.mk_sqlite.proofs.InsideLemmas.{inside_as}
use Rattle.mk_sqlite.proofs.StatementLemmas.{raises_next_record}
use Rattle.mk_sqlite.proofs.statements.raise_next_record.Goals as goal

pub returns-clause-inside : goal.returns-clause-inside
returns-clause-inside g c = inside_as _ _ _ _ _ (λ _ ran. raises_next_record _ _ c.args.value ran.0 c.requires (omega arith) (rw (c.params-to_sql.ensures, c.params-to_sql-2.ensures) at ran.1))
    c.send.ensures.inside
