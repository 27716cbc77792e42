use Rattle.mk_session.proofs.ReadingLemmas.{given_nothing, given_command}
use Rattle.mk_session.proofs.reading.given_by.Goals as goal

pub returns-in-Ok-NotUnderstood-clause-given : goal.returns-in-Ok-NotUnderstood-clause-given
returns-in-Ok-NotUnderstood-clause-given g c = given_nothing _ _ _ (rw c.in-Ok-NotUnderstood.field-0-is at c.in-Ok-NotUnderstood.ensures.kind)

pub returns-in-Ok-Is-clause-given : goal.returns-in-Ok-Is-clause-given
returns-in-Ok-Is-clause-given g c = given_command _ _ _ c.in-Ok-Is.command (rw c.in-Ok-Is.field-0-is at c.in-Ok-Is.ensures.kind)
