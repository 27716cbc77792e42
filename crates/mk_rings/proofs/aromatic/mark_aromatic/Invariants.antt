use Rattle.std.proofs.Common.{ℕ, Bool, length}
use Rattle.mk_model.specs.Edges.{HasKind}
use Rattle.mk_model.specs.Aromatic.{IsClosed}
use Rattle.mk_marks.specs.Marks.{IsMarked}
use Rattle.mk_marks.specs.SixRings.{LieIn, unmarked}
use Rattle.mk_rings.specs.Rounds.{AllBelow}
use Rattle.mk_rings.proofs.aromatic.mark_aromatic.Given as goal

abbrev pub invariant-loop-marks : goal.invariant-loop-marks
invariant-loop-marks l = record {
  four : (b : ℕ) → HasKind l.bonds b 4 → IsMarked l.marks b;
  queue : AllBelow (length l.bonds) l.queue;
  within : (set : ℕ → Bool) → IsClosed l.bonds set → LieIn set l.marks;
}

abbrev pub decreases-loop-marks : goal.decreases-loop-marks
decreases-loop-marks l = unmarked l.marks
