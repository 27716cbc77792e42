-- `bad_line_of_part_is_stop` and `bad_line_from_is_stop` are the law.
use Rattle.mk_form.proofs.Stops.{bad_line_of_part_is_stop, bad_line_from_is_stop}
use Rattle.mk_form.proofs.stopping.bad_line_of_part_is_stop.Goals as goal

pub returns-clause-here : goal.returns-clause-here
returns-clause-here g c = λ e. bad_line_of_part_is_stop e

pub returns-clause-behind : goal.returns-clause-behind
returns-clause-behind g c = λ e. bad_line_from_is_stop e
