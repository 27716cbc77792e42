-- `exact-until`, `completes-until` and `until_limit` are the law.
use Rattle.mk_form.proofs.Until.{exact-until, until_limit}
use Rattle.mk_form.proofs.Fronts.{completes-until}
use Rattle.mk_form.proofs.combining.until_is_exact.Goals as goal

pub returns-clause-exact : goal.returns-clause-exact
returns-clause-exact g c = λ e f s t. exact-until e f s t

pub returns-clause-completes : goal.returns-clause-completes
returns-clause-completes g c = λ e f. completes-until g.B.AnyTest.passes e f

pub returns-clause-bound : goal.returns-clause-bound
returns-clause-bound g c = λ e f s t. until_limit e f s t
