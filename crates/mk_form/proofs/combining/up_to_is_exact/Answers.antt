-- `exact-up_to` and `completes-up_to` are the law.
use Rattle.mk_form.proofs.UpTo.{exact-up_to}
use Rattle.mk_form.proofs.Fronts.{completes-up_to}
use Rattle.mk_form.proofs.combining.up_to_is_exact.Goals as goal

pub returns-clause-exact : goal.returns-clause-exact
returns-clause-exact g c = λ e. exact-up_to g.B.AnyTest.passes e

pub returns-clause-completes : goal.returns-clause-completes
returns-clause-completes g c = λ e. completes-up_to g.B.AnyTest.passes e
