use Rattle.mk_expand.proofs.BridgeLemmas.{none_leads_away}
use Rattle.mk_expand.proofs.bridges.no_ring_bond_leads_away.Goals as goal

pub returns : goal.returns
returns c = none_leads_away
