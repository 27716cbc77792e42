use Rattle.std.proofs.Common.{arith}
use Rattle.std.proofs.lemmas.Grind.{common_steps}
use Rattle.std.proofs.lemmas.List.{take_all}
use Rattle.mk_rings.proofs.MoleculeLemmas.{have_marks}
use Rattle.mk_rings.proofs.molecules.marked_bonds.Goals as goal

pub loop-b-preserved : goal.loop-b-preserved
loop-b-preserved c = record { edges_are = grind (arith, common_steps); each = grind (arith, common_steps) }

pub returns-clause-marks : goal.returns-clause-marks
returns-clause-marks c =
    have_marks c.args.bonds.now _ _ _ (rw (take_all c.loop-b.b c.args.bonds.now c.loop-b-test.false) at c.loop-b.invariant) c.in_ok-rings.ensures c.in_ok-aromatics.ensures
