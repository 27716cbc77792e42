use Rattle.sqlite.specs.Held.{state}
use Rattle.mk_outside.specs.Rows.{put}
use Rattle.mk_outside.specs.Tables.{record_number}
use Rattle.mk_sqlite.proofs.InsideLemmas.{inside_stopped, inside_both}
use Rattle.mk_sqlite.proofs.changes.change_record.Goals as goal

pub returns-in_err-put_record-clause-inside : goal.returns-in_err-put_record-clause-inside
returns-in_err-put_record-clause-inside g c = inside_stopped _ _ _ _ _ _ c.from_residual.ensures.0 c.put_record.ensures.inside

pub returns-clause-inside : goal.returns-clause-inside
returns-clause-inside g c =
    inside_both (state g.S.Store c.args.transaction.now.conn.now) (state g.S.Store c.put_record.new.transaction.conn.now) (state g.S.Store c.raise_next_record.new.transaction.conn.now)
    c.raise_next_record.result _ _ _ c.raise_next_record.ensures.survives.clean
    (λ one _ two t at. two (record t { records = put record_number (record { number = c.args.number; text = c.args.text.now }) t.records }) (one t at)) c.in_ok-put_record.ensures.inside
    c.raise_next_record.ensures.inside
