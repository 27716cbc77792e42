-- `exact-form`, `completes-form` and `shows-form` are the law.
use Rattle.mk_form.proofs.Choice.{shows-form}
use Rattle.mk_form.proofs.Fronts.{exact-form, completes-form}
use Rattle.mk_form.proofs.combining.form_is_exact.Goals as goal

pub returns-clause-exact : goal.returns-clause-exact
returns-clause-exact g c = λ e c w. exact-form e c w

pub returns-clause-completes : goal.returns-clause-completes
returns-clause-completes g c = λ e. completes-form e

pub returns-clause-shows : goal.returns-clause-shows
returns-clause-shows g c = λ t text due. shows-form g.B.AnyTest.passes t g.F.AnyForm.is g.F.AnyForm.due g.P.AnyPart.part.read text due
