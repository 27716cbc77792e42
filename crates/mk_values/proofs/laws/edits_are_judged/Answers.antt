use Rattle.mk_values.proofs.EditLemmas.{edit_is_judged}
use Rattle.mk_values.proofs.laws.edits_are_judged.Goals as goal

pub returns : goal.returns
returns c = edit_is_judged
