-- `exact-line_where`, `completes-line_where` and `shows-line_where` are the law.
use Rattle.mk_form.proofs.Lines.{exact-line_where}
use Rattle.mk_form.proofs.Choice.{shows-line_where}
use Rattle.mk_form.proofs.Fronts.{completes-line_where}
use Rattle.mk_form.proofs.combining.line_where_is_exact.Goals as goal

pub returns-clause-exact : goal.returns-clause-exact
returns-clause-exact g c = exact-line_where g.C.AnyTest.passes

pub returns-clause-completes : goal.returns-clause-completes
returns-clause-completes g c = λ l h. completes-line_where g.C.AnyTest.passes l h

pub returns-clause-shows : goal.returns-clause-shows
returns-clause-shows g c = λ t h. shows-line_where g.B.AnyTest.passes t g.C.AnyTest.passes h
