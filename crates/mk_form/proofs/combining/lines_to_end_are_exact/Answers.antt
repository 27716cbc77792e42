-- `exact-lines_to_end` is the law.
use Rattle.mk_form.proofs.ToEnd.{exact-lines_to_end}
use Rattle.mk_form.proofs.combining.lines_to_end_are_exact.Goals as goal

pub returns-clause-exact : goal.returns-clause-exact
returns-clause-exact g c = exact-lines_to_end g.B.AnyTest.passes
