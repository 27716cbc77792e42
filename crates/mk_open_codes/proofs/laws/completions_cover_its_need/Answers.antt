use Rattle.mk_open_codes.proofs.LawLemmas.{covered}
use Rattle.mk_open_codes.proofs.laws.completions_cover_its_need.Goals as goal

pub returns : goal.returns
returns c = covered
