use Rattle.std.proofs.Common.{length}
use Rattle.mk_expansions.proofs.starts.+is_below.Given as goal

abbrev pub decreases-is_below : goal.decreases-is_below
decreases-is_below l = length l.list.now
