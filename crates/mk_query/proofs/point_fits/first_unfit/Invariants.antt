use Rattle.std.proofs.Common.{◌≡◌, ◌<◌, ℕ, Some, true}
use Rattle.std.specs.Prelude.{slice_get}
use Rattle.mk_model.specs.declared.template.Slot.{Slot}
use Rattle.mk_query.specs.PointFits.{told_fit}
use Rattle.mk_query.proofs.point_fits.first_unfit.Given as goal

abbrev pub invariant-loop-i : goal.invariant-loop-i
invariant-loop-i l = (j : ℕ) (earlier : Slot) → j < l.i → slice_get l.slots j ≡ Some earlier → told_fit l.one l.two earlier ≡ true
