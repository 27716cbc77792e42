use Rattle.mk_model.proofs.SingleLabelsLemmas.{law}
use Rattle.mk_model.proofs.code_laws.single_labels_are_as_before.Goals as goal

pub returns : goal.returns
returns c = law
