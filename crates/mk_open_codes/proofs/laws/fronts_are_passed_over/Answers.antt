use Rattle.mk_open_codes.proofs.FrontLemmas.{passed_over}
use Rattle.mk_open_codes.proofs.laws.fronts_are_passed_over.Goals as goal

pub returns : goal.returns
returns c = passed_over
