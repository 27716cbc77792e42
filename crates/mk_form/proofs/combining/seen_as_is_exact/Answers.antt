-- `exact-seen_as` and `completes-seen_as` are the law.
use Rattle.mk_form.proofs.Seen.{exact-seen_as}
use Rattle.mk_form.proofs.Fronts.{completes-seen_as}
use Rattle.mk_form.proofs.combining.seen_as_is_exact.Goals as goal

pub returns-clause-exact : goal.returns-clause-exact
returns-clause-exact g c = λ e. exact-seen_as g.F.AnyView.seen e

pub returns-clause-completes : goal.returns-clause-completes
returns-clause-completes g c = λ e. completes-seen_as g.F.AnyView.seen e
