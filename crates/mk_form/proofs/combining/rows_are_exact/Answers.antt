-- `exact-rows`, `completes-rows` and `never-rows` are the law.
use Rattle.mk_form.proofs.Rows.{exact-rows}
use Rattle.mk_form.proofs.Fronts.{completes-rows}
use Rattle.mk_form.proofs.NeverDue.{never-rows}
use Rattle.mk_form.proofs.combining.rows_are_exact.Goals as goal

pub returns-clause-exact : goal.returns-clause-exact
returns-clause-exact g c = λ n e. exact-rows n e

pub returns-clause-completes : goal.returns-clause-completes
returns-clause-completes g c = λ n e. completes-rows n e

pub returns-clause-unnamed : goal.returns-clause-unnamed
returns-clause-unnamed g c = λ n e. never-rows n e
