use Rattle.mk_model.proofs.OpenSlotsLemmas.{law}
use Rattle.mk_model.proofs.code_laws.no_code_begins_another.Goals as goal

pub returns : goal.returns
returns c = law
