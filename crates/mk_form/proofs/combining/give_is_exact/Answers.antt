-- `exact-give` is the law.
use Rattle.mk_form.proofs.Lines.{exact-give}
use Rattle.mk_form.proofs.combining.give_is_exact.Goals as goal

pub returns-clause-exact : goal.returns-clause-exact
returns-clause-exact g c = λ v. exact-give v
