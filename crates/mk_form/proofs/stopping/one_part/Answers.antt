-- `one_part` and `one_part_from` are the law.
use Rattle.mk_form.proofs.Stops.{one_part, one_part_from}
use Rattle.mk_form.proofs.stopping.one_part.Goals as goal

pub returns-clause-here : goal.returns-clause-here
returns-clause-here g c = λ e. one_part e

pub returns-clause-behind : goal.returns-clause-behind
returns-clause-behind g c = λ e. one_part_from e
