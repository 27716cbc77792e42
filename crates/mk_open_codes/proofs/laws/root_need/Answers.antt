use Rattle.mk_open_codes.proofs.AloneLemmas.{root_all}
use Rattle.mk_open_codes.proofs.laws.root_need.Goals as goal

pub returns : goal.returns
returns c = root_all
