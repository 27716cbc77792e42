use Rattle.mk_expand.proofs.BridgeLemmas.{aromatic_stays}
use Rattle.mk_expand.proofs.bridges.aromatic_set_stays.Goals as goal

pub returns : goal.returns
returns c = aromatic_stays
