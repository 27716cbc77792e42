use Rattle.mk_query.proofs.KeptTextLemmas.{kept_text}
use Rattle.mk_query.proofs.laws.kept_text_is_the_query.Goals as goal

pub returns : goal.returns
returns c = kept_text c.kept_lines_are_the_query.ensures
