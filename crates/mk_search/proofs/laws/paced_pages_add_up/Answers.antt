use Rattle.mk_model.proofs.ForCallers.{ahead_adds_up}
use Rattle.mk_search.specs.Pages.{IsHeldIn}
use Rattle.mk_search.proofs.laws.paced_pages_add_up.Goals as goal

pub returns : goal.returns
returns c = λ rows. ahead_adds_up (IsHeldIn rows)
