-- `exact-line` and `completes-line` are the law.
use Rattle.mk_form.proofs.Lines.{exact-line}
use Rattle.mk_form.proofs.Fronts.{completes-line}
use Rattle.mk_form.proofs.combining.line_is_exact.Goals as goal

pub returns-clause-exact : goal.returns-clause-exact
returns-clause-exact g c = exact-line g.F.AnySpelling.value

pub returns-clause-completes : goal.returns-clause-completes
returns-clause-completes g c = λ l v is. completes-line g.F.AnySpelling.value l v is
