-- `exact-any_lines` and `completes-any_lines` are the law.
use Rattle.mk_form.proofs.Rows.{exact-any_lines}
use Rattle.mk_form.proofs.Fronts.{completes-any_lines}
use Rattle.mk_form.proofs.combining.any_lines_are_exact.Goals as goal

pub returns-clause-exact : goal.returns-clause-exact
returns-clause-exact g c = λ n. exact-any_lines n

pub returns-clause-completes : goal.returns-clause-completes
returns-clause-completes g c = λ l n. completes-any_lines l n
