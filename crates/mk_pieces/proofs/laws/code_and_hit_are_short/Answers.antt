use Rattle.mk_pieces.proofs.GraphLemmas.{short}
use Rattle.mk_pieces.proofs.laws.code_and_hit_are_short.Goals as goal

pub returns : goal.returns
returns c = short
