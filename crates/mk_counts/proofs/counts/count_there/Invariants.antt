use Rattle.std.proofs.Common.{◌≡◌, take}
use Rattle.std.specs.Prelude.{count_by}
use Rattle.mk_counts.specs.Counts.{is_of}
use Rattle.mk_counts.proofs.counts.count_there.Given as goal

abbrev pub invariant-loop-atom : goal.invariant-loop-atom
invariant-loop-atom l = l.count ≡ count_by (is_of l.z) (take l.atom-index l.atoms)
