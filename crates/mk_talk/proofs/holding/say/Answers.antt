use Rattle.mk_talk.proofs.SpeakingLemmas.{line_unput}
use Rattle.mk_talk.proofs.holding.say.Goals as goal

pub returns-in-Err : goal.returns-in-Err
returns-in-Err g c = line_unput _ _ _ _ _ c.in-Err.ensures
