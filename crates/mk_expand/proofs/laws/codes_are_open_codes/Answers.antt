use Rattle.mk_expand.proofs.DecidedLemmas.{law}
use Rattle.mk_expand.proofs.laws.codes_are_open_codes.Goals as goal

pub returns : goal.returns
returns c = law
