use Rattle.mk_model.proofs.CodesLemmas.{law}
use Rattle.mk_model.proofs.code_laws.codes_are_read_one_way.Goals as goal

pub returns : goal.returns
returns c = law
