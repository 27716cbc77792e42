use Rattle.mk_counts.proofs.AskedLemmas.{tallied_none}
use Rattle.mk_counts.proofs.asked.counts_there.Goals as goal

pub loop-atom-init : goal.loop-atom-init
loop-atom-init c = tallied_none
