use Rattle.mk_model.proofs.KeysLemmas.{begins_no_key}
use Rattle.mk_model.proofs.code_laws.no_key_begins_another.Goals as goal

pub returns : goal.returns
returns c = begins_no_key
