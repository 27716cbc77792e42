use Rattle.mk_text.proofs.SpellingLemmas.{signed_right_justified_is_read}
use Rattle.mk_text.proofs.laws.signed_right_justified_is_read.Goals as goal

pub returns : goal.returns
returns c = signed_right_justified_is_read
