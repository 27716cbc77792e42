use Rattle.mk_open_codes.proofs.OpenChoiceLemmas.{law}
use Rattle.mk_open_codes.proofs.laws.open_codes_are_read_one_way.Goals as goal

pub returns : goal.returns
returns c = law
