use Rattle.mk_choice.proofs.LimitLemmas.{no_limit}
use Rattle.mk_choice.proofs.limits.no_limits.Goals as goal

pub returns-clause-none : goal.returns-clause-none
returns-clause-none c = no_limit
