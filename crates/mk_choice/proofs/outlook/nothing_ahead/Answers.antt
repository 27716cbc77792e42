use Rattle.mk_choice.proofs.AheadLemmas.{nothing_is}
use Rattle.mk_choice.proofs.outlook.nothing_ahead.Goals as goal

pub returns-clause-none : goal.returns-clause-none
returns-clause-none c = nothing_is
