-- `exact-choice` is the law.
use Rattle.mk_form.proofs.Choice.{exact-choice}
use Rattle.mk_form.proofs.combining.choice_is_exact.Goals as goal

pub returns-clause-exact : goal.returns-clause-exact
returns-clause-exact g c = λ e f s t. exact-choice e f s t
