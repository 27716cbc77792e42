-- `stop_is_named` and `stop_from_is_named` are the law.
use Rattle.mk_form.proofs.Stops.{stop_is_named, stop_from_is_named}
use Rattle.mk_form.proofs.stopping.stop_is_named.Goals as goal

pub returns-clause-here : goal.returns-clause-here
returns-clause-here g c = λ e. stop_is_named e

pub returns-clause-behind : goal.returns-clause-behind
returns-clause-behind g c = λ e. stop_from_is_named e
