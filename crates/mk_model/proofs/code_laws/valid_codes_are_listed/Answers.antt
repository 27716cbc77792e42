use Rattle.mk_model.proofs.PlainCodesLemmas.{law}
use Rattle.mk_model.proofs.code_laws.valid_codes_are_listed.Goals as goal

pub returns : goal.returns
returns c = law
