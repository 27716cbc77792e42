use Rattle.mk_laws.proofs.HistoryLemmas.{one_session}
use Rattle.mk_laws.proofs.sessions.one_session.Goals as goal

pub returns : goal.returns
returns c = one_session c.histories_are_scripts.ensures.ended c.one_run.ensures.run
