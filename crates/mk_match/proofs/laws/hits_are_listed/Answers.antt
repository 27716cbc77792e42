use Rattle.mk_match.proofs.PlainLemmas.{law}
use Rattle.mk_match.proofs.laws.hits_are_listed.Goals as goal

pub returns : goal.returns
returns c = law
