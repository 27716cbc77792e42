use Rattle.std.proofs.Common.{◌<◌, ℕ}
use Rattle.mk_query.specs.CompileFaults.{FitsTable}
use Rattle.mk_query.proofs.point_fits.first_misfit.Given as goal

abbrev pub invariant-loop-t : goal.invariant-loop-t
invariant-loop-t l = (t : ℕ) → t < l.t → FitsTable l.draft t
