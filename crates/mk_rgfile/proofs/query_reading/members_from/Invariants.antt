use Rattle.std.proofs.Common.{◌-◌, length}
use Rattle.mk_text.specs.Lines.{lines_of}
use Rattle.mk_rgfile.proofs.QueryReadingLemmas.{MembersLeft}
use Rattle.mk_rgfile.proofs.query_reading.members_from.Given as goal

abbrev pub invariant-loop-at : goal.invariant-loop-at
invariant-loop-at l = MembersLeft (lines_of l.text) l.from l.members l.at

abbrev pub decreases-loop-at : goal.decreases-loop-at
decreases-loop-at l = length l.lines - l.at
