-- `one_value` is the law.
use Rattle.mk_form.proofs.Stops.{one_value}
use Rattle.mk_form.proofs.stopping.one_value.Goals as goal

pub returns : goal.returns
returns g c = λ e. one_value e
