use Rattle.mk_model.proofs.KeysLemmas.{read_one_way}
use Rattle.mk_model.proofs.code_laws.occurrences_are_read_one_way.Goals as goal

pub returns : goal.returns
returns c = read_one_way
