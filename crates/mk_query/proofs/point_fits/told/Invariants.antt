use Rattle.std.proofs.Common.{◌≡◌, ◌≤◌, length}
use Rattle.mk_query.proofs.PointFitsLemmas.{AreToldSoFar}
use Rattle.mk_query.proofs.point_fits.told.Given as goal

abbrev pub invariant-loop-g : goal.invariant-loop-g
invariant-loop-g l =
    record {
      size : length l.list.items ≡ l.g;
      few : l.g ≤ 32;
      each : AreToldSoFar l.draft l.n l.g l.list.items;
    }
