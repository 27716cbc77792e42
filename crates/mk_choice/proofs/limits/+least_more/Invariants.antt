use Rattle.std.proofs.Common.{length}
use Rattle.mk_choice.proofs.limits.+least_more.Given as goal

abbrev pub decreases-least_more : goal.decreases-least_more
decreases-least_more l = length l.range.now
