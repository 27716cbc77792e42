use Rattle.mk_open_codes.proofs.FrontLemmas.{completed}
use Rattle.mk_open_codes.proofs.laws.fronts_are_completed.Goals as goal

pub returns : goal.returns
returns c = completed
