use Rattle.mk_open_codes.proofs.AloneLemmas.{alone_none}
use Rattle.mk_open_codes.proofs.laws.alone_fronts_hold_none.Goals as goal

pub returns : goal.returns
returns c = alone_none
