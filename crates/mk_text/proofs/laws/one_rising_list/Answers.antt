use Rattle.mk_text.proofs.RisingLemmas.{one_rising_list}
use Rattle.mk_text.proofs.laws.one_rising_list.Goals as goal

pub returns : goal.returns
returns c = one_rising_list
