use Rattle.mk_text.proofs.RisingLemmas.{first_of_rising}
use Rattle.mk_text.proofs.laws.first_of_rising.Goals as goal

pub returns : goal.returns
returns c = first_of_rising
