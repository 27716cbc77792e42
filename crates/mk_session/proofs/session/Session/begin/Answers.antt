use Rattle.mk_session.proofs.RunningLemmas.{held_as, loaded_as}
use Rattle.mk_session.proofs.OpeningLemmas.{begins_by, no_store}
use Rattle.mk_session.proofs.session.Session.begin.Goals as goal

pub returns-in-Err-Failed-clause-begun : goal.returns-in-Err-Failed-clause-begun
returns-in-Err-Failed-clause-begun g c = held_as _ _ _ c.load.ensures.kept

pub returns-in-Err-Memory-clause-begun : goal.returns-in-Err-Memory-clause-begun
returns-in-Err-Memory-clause-begun g c = held_as _ _ _ c.load.ensures.kept

pub returns-in-Ok-clause-begun : goal.returns-in-Ok-clause-begun
returns-in-Ok-clause-begun g c =
    begins_by _ _ _ c.in-Ok.tables c.opened.result (loaded_as _ _ _ c.in-Ok.tables c.in-Ok.ensures.gives c.in-Ok.ensures.kept) c.opened.ensures

pub returns-in-Ok-clause-counted : goal.returns-in-Ok-clause-counted
returns-in-Ok-clause-counted g c = rw (no_store c.in-Ok.tables c.opened.result c.opened.ensures) c.in-Ok.ensures.counted
