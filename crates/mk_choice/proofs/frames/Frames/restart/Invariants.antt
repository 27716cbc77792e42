use Rattle.mk_choice.specs.Frames.{AreFrames}
use Rattle.mk_choice.proofs.frames.Frames.restart.Given as goal

abbrev pub invariant-loop-self : goal.invariant-loop-self
invariant-loop-self l = AreFrames l.query l.most l.self

abbrev pub decreases-loop-self : goal.decreases-loop-self
decreases-loop-self l = l.self.depth
