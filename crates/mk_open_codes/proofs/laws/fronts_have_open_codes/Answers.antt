use Rattle.mk_open_codes.proofs.FrontLemmas.{has_open_code}
use Rattle.mk_open_codes.proofs.laws.fronts_have_open_codes.Goals as goal

pub returns : goal.returns
returns c = has_open_code
