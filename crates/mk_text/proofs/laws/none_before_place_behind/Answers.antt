use Rattle.mk_text.proofs.FirstLemmas.{none_before_place_behind}
use Rattle.mk_text.proofs.laws.none_before_place_behind.Goals as goal

pub returns : goal.returns
returns c = none_before_place_behind
