use Rattle.std.proofs.Common.{length}
use Rattle.mk_choice.proofs.within.+chosen_within.Given as goal

abbrev pub decreases-chosen_within : goal.decreases-chosen_within
decreases-chosen_within l = length l.numbers.now
