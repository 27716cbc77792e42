use Rattle.std.proofs.Common.{take}
use Rattle.mk_query.specs.PointFits.{AllHavePoints}
use Rattle.mk_query.proofs.point_fits.all_have_points.Given as goal

abbrev pub invariant-loop-i : goal.invariant-loop-i
invariant-loop-i l = AllHavePoints l.draft.templates l.n (take l.i l.members)
