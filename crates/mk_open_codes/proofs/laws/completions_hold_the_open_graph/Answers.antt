use Rattle.mk_open_codes.proofs.LawLemmas.{held}
use Rattle.mk_open_codes.proofs.laws.completions_hold_the_open_graph.Goals as goal

pub returns : goal.returns
returns c = held
