use Rattle.mk_text.proofs.ChoiceLemmas.{choices_that_pass}
use Rattle.mk_text.proofs.laws.choices_rise.Goals as goal

pub returns : goal.returns
returns c = choices_that_pass
