use Rattle.mk_choice.proofs.CodesLemmas.{no_valid_begins_another}
use Rattle.mk_choice.proofs.laws.no_valid_code_begins_another.Goals as goal

pub returns : goal.returns
returns c = no_valid_begins_another
