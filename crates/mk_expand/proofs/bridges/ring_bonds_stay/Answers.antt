use Rattle.mk_expand.proofs.BridgeLemmas.{rings_stay}
use Rattle.mk_expand.proofs.bridges.ring_bonds_stay.Goals as goal

pub returns : goal.returns
returns c = rings_stay
