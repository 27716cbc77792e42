use Rattle.mk_search.proofs.AllKeysLemmas.{nothing_behind}
use Rattle.mk_search.proofs.laws.nothing_is_behind_a_key.Goals as goal

pub returns : goal.returns
returns c = nothing_behind
