-- `part_or_bad` and `bad_from_is_no_part` are the law.
use Rattle.mk_form.proofs.Stops.{part_or_bad, bad_from_is_no_part}
use Rattle.mk_form.proofs.stopping.part_or_bad_line.Goals as goal

pub returns-clause-here : goal.returns-clause-here
returns-clause-here g c = λ e. part_or_bad e

pub returns-clause-behind : goal.returns-clause-behind
returns-clause-behind g c = λ e. bad_from_is_no_part e
