use Rattle.mk_text.proofs.SpellingLemmas.{right_justified_is_read}
use Rattle.mk_text.proofs.laws.right_justified_is_read.Goals as goal

pub returns : goal.returns
returns c = right_justified_is_read
