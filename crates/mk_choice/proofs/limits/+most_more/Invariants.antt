use Rattle.std.proofs.Common.{length}
use Rattle.mk_choice.proofs.limits.+most_more.Given as goal

abbrev pub decreases-most_more : goal.decreases-most_more
decreases-most_more l = length l.range.now
