use Rattle.mk_open_codes.proofs.LawLemmas.{no_hit}
use Rattle.mk_open_codes.proofs.laws.no_hit_no_completion.Goals as goal

pub returns : goal.returns
returns c = no_hit
