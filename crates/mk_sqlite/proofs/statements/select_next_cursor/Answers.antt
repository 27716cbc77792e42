use Rattle.std.proofs.Common.{pos, [], ◌∷◌}
use Rattle.sqlite_value.specs.declared.value.Value.TheVariants.{Int}
use Rattle.sqlite.specs.State.{Shown}
use Rattle.sqlite.specs.Held.{state}
use Rattle.mk_outside.specs.declared.answers.KeepFail.{KeepFail}
use Rattle.mk_sqlite.proofs.InsideLemmas.{inside_stopped, inside_with}
use Rattle.mk_sqlite.proofs.TextLemmas.{whole, select_next, select_next_plain}
use Rattle.mk_sqlite.proofs.SelectLemmas.{selects_next_cursor, shown_plain}
use Rattle.mk_sqlite.proofs.statements.select_next_cursor.Goals as goal

pub returns-in_err-rows-clause-inside : goal.returns-in_err-rows-clause-inside
returns-in_err-rows-clause-inside g c = inside_stopped _ _ _ _ _ _ c.from_residual.ensures.0 c.show.ensures.inside

pub returns-clause-inside : goal.returns-clause-inside
returns-clause-inside g c =
    let old = state g.S.Store c.args.transaction.now.conn.now in
    let new = state g.S.Store c.show.new.transaction.conn.now in
    let rows = c.in_ok-rows.rows.items in
    inside_with KeepFail old new c.in_ok-rows.rows c.next_of.result (λ it. Shown select_next (Int (pos 2) ∷ []) old new it.items) _ _ c.next_of.ensures.read
    (λ it shown read at. (
      selects_next_cursor old new rows it at shown (rw c.as_slice.ensures.value at read),
      (shown_plain select_next (Int (pos 2) ∷ []) old new whole at.schema select_next_plain rows shown).0.now_is,
    )) (rw c.params-to_sql.ensures at c.in_ok-rows.ensures.inside)
