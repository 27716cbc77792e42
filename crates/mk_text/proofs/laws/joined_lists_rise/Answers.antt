use Rattle.mk_text.proofs.JoinedLemmas.{joined_lists_rise}
use Rattle.mk_text.proofs.laws.joined_lists_rise.Goals as goal

pub returns : goal.returns
returns c = joined_lists_rise
