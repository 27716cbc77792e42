-- `exact-counts_line` and `completes-counts_line` are the law.
use Rattle.mk_form.proofs.Lines.{exact-counts_line}
use Rattle.mk_form.proofs.Fronts.{completes-counts_line}
use Rattle.mk_form.proofs.combining.counts_line_is_exact.Goals as goal

pub returns-clause-exact : goal.returns-clause-exact
returns-clause-exact g c = λ apart. exact-counts_line g.T.AnyText.says g.F.AnySpelling.value apart

pub returns-clause-completes : goal.returns-clause-completes
returns-clause-completes g c = λ l v is. completes-counts_line g.T.AnyText.says g.F.AnySpelling.value l v is
