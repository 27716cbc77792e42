use Rattle.std.proofs.Common.{◌≡◌, true, take}
use Rattle.mk_query.specs.PointFits.{all_told}
use Rattle.mk_query.proofs.point_fits.all_told.Given as goal

abbrev pub invariant-loop-i : goal.invariant-loop-i
invariant-loop-i l = all_told l.list (take l.i l.groups) ≡ true
