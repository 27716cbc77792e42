use Rattle.std.proofs.Common.{take}
use Rattle.mk_counts.proofs.AskedLemmas.{Tallied}
use Rattle.mk_counts.proofs.asked.counts_there.Given as goal

abbrev pub invariant-loop-atom : goal.invariant-loop-atom
invariant-loop-atom l = Tallied (take l.atom-index l.atom-items) l.elements
