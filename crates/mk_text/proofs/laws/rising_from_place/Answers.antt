use Rattle.mk_text.proofs.RisingLemmas.{rising_from_place}
use Rattle.mk_text.proofs.laws.rising_from_place.Goals as goal

pub returns : goal.returns
returns c = rising_from_place
