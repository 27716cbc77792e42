use Rattle.mk_sqlite.proofs.AgainLemmas.{keeper_sound, keeper_starts}
use Rattle.mk_sqlite.proofs.keeper.SqlKeeper.at.Goals as goal

pub returns-clause-starts : goal.returns-clause-starts
returns-clause-starts g c = keeper_starts _ _ c.opened_at.ensures.opened c.opened_at.ensures.found

pub returns-clause-sound : goal.returns-clause-sound
returns-clause-sound g c = keeper_sound _ c.opened_at.ensures.opened
