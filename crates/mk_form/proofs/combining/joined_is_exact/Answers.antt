-- `exact-joined` and `shows-joined` are the law.
use Rattle.mk_form.proofs.Joined.{exact-joined, shows-joined}
use Rattle.mk_form.proofs.combining.joined_is_exact.Goals as goal

pub returns-clause-exact : goal.returns-clause-exact
returns-clause-exact g c = exact-joined g.G.AnyTest.passes g.C.AnyTest.passes g.F.AnyJoined.value

pub returns-clause-shows : goal.returns-clause-shows
returns-clause-shows g c = λ t on close. shows-joined g.B.AnyTest.passes t g.G.AnyTest.passes g.C.AnyTest.passes g.F.AnyJoined.value on close
