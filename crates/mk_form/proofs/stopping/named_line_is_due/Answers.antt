-- `named_is_due` and `named_from_is_due` are the law.
use Rattle.mk_form.proofs.Stops.{named_is_due, named_from_is_due}
use Rattle.mk_form.proofs.stopping.named_line_is_due.Goals as goal

pub returns-clause-here : goal.returns-clause-here
returns-clause-here g c = λ e. named_is_due e

pub returns-clause-behind : goal.returns-clause-behind
returns-clause-behind g c = λ e. named_from_is_due e
