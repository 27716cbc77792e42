-- `exact-sequence` and `completes-sequence` are the law.
use Rattle.mk_form.proofs.Sequence.{exact-sequence}
use Rattle.mk_form.proofs.Fronts.{completes-sequence}
use Rattle.mk_form.proofs.combining.sequence_is_exact.Goals as goal

pub returns-clause-exact : goal.returns-clause-exact
returns-clause-exact g c = λ e f. exact-sequence e f

pub returns-clause-completes : goal.returns-clause-completes
returns-clause-completes g c = λ e f. completes-sequence e f
