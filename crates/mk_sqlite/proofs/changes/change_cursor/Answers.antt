use Rattle.std.specs.Prelude.{List, ℕ}
use Rattle.std.proofs.Common.{◌∙◌, ap, subst}
use Rattle.sqlite.specs.Held.{state}
use Rattle.mk_outside.specs.Rows.{put}
use Rattle.mk_outside.specs.Tables.{cursor_number}
use Rattle.mk_sqlite.specs.Told.{spelt_place}
use Rattle.mk_sqlite.specs.Steps.{IsWhole}
use Rattle.mk_sqlite.proofs.InsideLemmas.{inside_both}
use Rattle.mk_sqlite.proofs.changes.change_cursor.Goals as goal

pub returns-clause-inside : goal.returns-clause-inside
returns-clause-inside g c =
    let mid = state g.S.Store c.put_cursor.new.transaction.conn.now in
    let read = ap spelt_place c.as_slice.ensures.value ∙ c.in_ok-place.ensures.read in
    inside_both (state g.S.Store c.args.transaction.now.conn.now) mid (state g.S.Store c.raise_next_cursor.new.transaction.conn.now) c.raise_next_cursor.result _ _ _
    c.raise_next_cursor.ensures.survives.clean
    (λ one _ two t at.
    let put_in = λ (name : List ℕ). record t { cursors = put cursor_number (record { number = c.args.number; name = name; place = c.args.place.now }) t.cursors } in
    two (put_in c.args.name.now) (subst (λ name. IsWhole mid.now (put_in name)) c.in_ok-name.ensures (one c.args.place.now read t at))) c.in_ok-put_cursor.ensures.inside
    c.raise_next_cursor.ensures.inside
