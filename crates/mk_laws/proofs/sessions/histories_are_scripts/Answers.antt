use Rattle.mk_laws.proofs.HistoryLemmas.{histories_are_scripts, sessions_end_as_scripts}
use Rattle.mk_laws.proofs.sessions.histories_are_scripts.Goals as goal

pub returns-clause-answered : goal.returns-clause-answered
returns-clause-answered c = histories_are_scripts c.sessions_are_scripts.ensures

pub returns-clause-ended : goal.returns-clause-ended
returns-clause-ended c = sessions_end_as_scripts c.sessions_are_scripts.ensures
