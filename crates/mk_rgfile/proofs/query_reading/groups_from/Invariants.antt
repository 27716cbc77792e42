use Rattle.std.proofs.Common.{◌-◌, length}
use Rattle.mk_text.specs.Lines.{lines_of}
use Rattle.mk_rgfile.proofs.QueryReadingLemmas.{GroupsLeft}
use Rattle.mk_rgfile.proofs.query_reading.groups_from.Given as goal

abbrev pub invariant-loop-at : goal.invariant-loop-at
invariant-loop-at l = GroupsLeft (lines_of l.text) l.from l.groups l.at

abbrev pub decreases-loop-at : goal.decreases-loop-at
decreases-loop-at l = length l.lines - l.at
