use Rattle.mk_model.proofs.NodesLemmas.{ahead_adds_up}
use Rattle.mk_model.specs.Keys.{IsAmong}
use Rattle.mk_model.proofs.code_laws.ahead_adds_up.Goals as goal

pub returns : goal.returns
returns c = λ molecules. ahead_adds_up (IsAmong molecules)
