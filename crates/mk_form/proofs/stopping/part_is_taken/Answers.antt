-- `part_is_taken` and `part_from_is_taken` are the law.
use Rattle.mk_form.proofs.Stops.{part_is_taken, part_from_is_taken}
use Rattle.mk_form.proofs.stopping.part_is_taken.Goals as goal

pub returns-clause-here : goal.returns-clause-here
returns-clause-here g c = λ e. part_is_taken e

pub returns-clause-behind : goal.returns-clause-behind
returns-clause-behind g c = λ e. part_from_is_taken e
