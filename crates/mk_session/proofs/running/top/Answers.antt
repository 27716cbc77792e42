use Rattle.std.proofs.Common.{refl}
use Rattle.mk_session.specs.declared.status.Status.TheVariants as status
use Rattle.mk_session.specs.declared.work.Given.TheVariants as given
use Rattle.mk_session.specs.Run.{NotUnderstood, ScriptLong}
use Rattle.mk_session.proofs.HeadlineLemmas.{headline_ended, headline_stopped, understood, untouched_keeper}
use Rattle.mk_session.proofs.RunningLemmas.{said, untouched}
use Rattle.mk_session.proofs.running.top.Goals as goal

pub returns-in-Err-clause-headline : goal.returns-in-Err-clause-headline
returns-in-Err-clause-headline g c = headline_stopped _ _ _ _ refl refl refl refl c.in-Err.ensures.taken c.in-Err.status c.in-Err.ensures.given

pub returns-in-Ok-NoCommand-clause-headline : goal.returns-in-Ok-NoCommand-clause-headline
returns-in-Ok-NoCommand-clause-headline g c =
    let held = untouched_keeper (g.K.Keeper.sound c.args.keeper.now) (g.K.Keeper.tables c.args.keeper.now) in
    headline_ended _ _ _ _ _ given.NoCommand (rw c.in-Ok-NoCommand.field-0-is at c.in-Ok-NoCommand.ensures.given)
    (said _ held.t _ _ status.Words (NotUnderstood refl refl refl) _ _ _ _ _ _ _ _ _ _ _ _ held.loaded c.say.ensures refl)
    (λ _. record { tables = refl; files_count = refl; keeper_count = refl; absences = refl }) c.in-Ok-NoCommand.ensures.taken

pub returns-in-Ok-TooMuch-clause-headline : goal.returns-in-Ok-TooMuch-clause-headline
returns-in-Ok-TooMuch-clause-headline g c =
    let held = untouched_keeper (g.K.Keeper.sound c.args.keeper.now) (g.K.Keeper.tables c.args.keeper.now) in
    let is = rw c.in-Ok-TooMuch.field-0-is at c.in-Ok-TooMuch.ensures.given in
    headline_ended _ _ _ _ _ given.TooMuch is
    (said _ held.t _ _ status.ScriptLong (ScriptLong refl refl refl) _ _ _ _ _ _ _ _ _ _ _ _ held.loaded c.say-in-Ok-TooMuch.ensures refl)
    (λ e. absurd (understood _ _ _ _ _ _ is (λ f. cc) e)) c.in-Ok-TooMuch.ensures.taken

pub returns-in-Ok-Orders-clause-headline : goal.returns-in-Ok-Orders-clause-headline
returns-in-Ok-Orders-clause-headline g c =
    let is = rw c.in-Ok-Orders.field-0-is at c.in-Ok-Orders.ensures.given in
    headline_ended _ _ _ _ _ (given.Orders c.in-Ok-Orders.work) is c.do_work.ensures.leaves (λ e. absurd (understood _ _ _ _ _ _ is (λ f. cc) e)) c.in-Ok-Orders.ensures.taken

pub returns-in-Ok-Orders-clause-unread : goal.returns-in-Ok-Orders-clause-unread
returns-in-Ok-Orders-clause-unread g c =
    untouched _ _ _ _ _ c.in-Ok-Orders.work _ _ c.do_work.result (rw c.in-Ok-Orders.field-0-is at c.in-Ok-Orders.ensures.given) c.do_work.ensures.unread
