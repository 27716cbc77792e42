use Rattle.mk_model.proofs.ForCallers.{ahead_adds_up}
use Rattle.mk_library.specs.Records.{IsMoleculeAt}
use Rattle.mk_laws.proofs.laws.parts_of_a_search_add_up.Goals as goal

pub returns : goal.returns
returns c = λ records. ahead_adds_up (IsMoleculeAt records)
