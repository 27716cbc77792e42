use Rattle.mk_open_codes.proofs.AloneLemmas.{slots_none}
use Rattle.mk_open_codes.proofs.laws.slots_hold_none.Goals as goal

pub returns : goal.returns
returns c = slots_none
