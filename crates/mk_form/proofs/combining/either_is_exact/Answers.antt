-- `exact-either` is the law.
use Rattle.mk_form.proofs.Either.{exact-either}
use Rattle.mk_form.proofs.combining.either_is_exact.Goals as goal

pub returns-clause-exact : goal.returns-clause-exact
returns-clause-exact g c = λ e f none apart unnamed. exact-either e f none apart unnamed
