-- `bad_line_is_stop` is the law.
use Rattle.mk_form.proofs.Stops.{bad_line_is_stop}
use Rattle.mk_form.proofs.stopping.bad_line_is_stop.Goals as goal

pub returns : goal.returns
returns g c = λ e. bad_line_is_stop e
