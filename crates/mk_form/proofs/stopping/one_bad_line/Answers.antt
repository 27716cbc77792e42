-- `one_bad_line_from` is the law behind the first lines.
use Rattle.mk_form.proofs.Stops.{one_bad_line_from}
use Rattle.mk_form.proofs.stopping.one_bad_line.Goals as goal

pub returns-clause-behind : goal.returns-clause-behind
returns-clause-behind g c = one_bad_line_from g.P.AnyPart.part
