use Rattle.std.proofs.Common.{◌≡◌, take}
use Rattle.std.specs.Prelude.{count_by}
use Rattle.mk_counts.specs.Counts.{asks_for}
use Rattle.mk_counts.proofs.counts.count_asked.Given as goal

abbrev pub invariant-loop-atom : goal.invariant-loop-atom
invariant-loop-atom l = l.count ≡ count_by (asks_for l.z) (take l.atom-index l.atoms)
