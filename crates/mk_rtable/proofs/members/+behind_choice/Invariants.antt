use Rattle.std.proofs.Common.{length}
use Rattle.mk_rtable.proofs.members.+behind_choice.Given as goal

abbrev pub decreases-behind_choice : goal.decreases-behind_choice
decreases-behind_choice l = length l.numbers.now
