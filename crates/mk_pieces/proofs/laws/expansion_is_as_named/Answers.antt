use Rattle.mk_pieces.proofs.NamedLemmas.{named_expansion}
use Rattle.mk_pieces.proofs.laws.expansion_is_as_named.Goals as goal

pub returns : goal.returns
returns c = named_expansion
