-- `exact-with_lines` and `completes-with_lines` are the law.
use Rattle.mk_form.proofs.Seen.{exact-with_lines}
use Rattle.mk_form.proofs.Fronts.{completes-with_lines}
use Rattle.mk_form.proofs.combining.with_lines_is_exact.Goals as goal

pub returns-clause-exact : goal.returns-clause-exact
returns-clause-exact g c = λ e. exact-with_lines e

pub returns-clause-completes : goal.returns-clause-completes
returns-clause-completes g c = λ e. completes-with_lines e
