use Rattle.mk_open_codes.proofs.AloneLemmas.{fronts_none}
use Rattle.mk_open_codes.proofs.laws.fronts_hold_none.Goals as goal

pub returns : goal.returns
returns c = fronts_none
