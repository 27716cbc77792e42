use Rattle.std.proofs.Common.{refl, ap, ◌∙◌}
use Rattle.std.specs.Prelude.{Err}
use Rattle.mk_session.specs.Running.{SaidWhole, SaidFailed}
use Rattle.mk_session.proofs.RunningLemmas.{put_whole, put_part}
use Rattle.mk_session.proofs.running.say.Goals as goal

pub returns-in-Ok : goal.returns-in-Ok
returns-in-Ok g c = record { part = c.args.line.now; written = put_whole c.in-Ok.field-0 _ _ _ c.in-Ok.ensures.told; said = SaidWhole refl c.in-Ok.ensures.counted refl }

pub returns-in-Err-Failed : goal.returns-in-Err-Failed
returns-in-Err-Failed g c =
    let p = put_part c.put.result _ _ c.args.line.now (c.in-Err-Failed.is ∙ ap Err c.in-Err-Failed.field-0-is) c.put.ensures.told in
    record { part = p.part; written = p.written; said = SaidFailed p.rest p.whole (rw c.in-Err-Failed.field-0-is at c.in-Err-Failed.ensures.counted) refl }
