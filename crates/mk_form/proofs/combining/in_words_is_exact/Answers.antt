-- `exact-in_words` is the law.
use Rattle.mk_form.proofs.InWords.{exact-in_words}
use Rattle.mk_form.proofs.combining.in_words_is_exact.Goals as goal

pub returns-clause-exact : goal.returns-clause-exact
returns-clause-exact g c = λ w e. exact-in_words w e
