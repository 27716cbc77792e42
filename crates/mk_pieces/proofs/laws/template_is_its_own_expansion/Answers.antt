use Rattle.mk_pieces.proofs.DrawnLawLemmas.{without_slots}
use Rattle.mk_pieces.proofs.laws.template_is_its_own_expansion.Goals as goal

pub returns : goal.returns
returns c = without_slots
