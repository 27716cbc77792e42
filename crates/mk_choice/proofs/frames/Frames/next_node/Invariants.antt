use Rattle.mk_choice.proofs.FrameLemmas.{IsWentBack}
use Rattle.mk_choice.proofs.frames.Frames.next_node.Given as goal

abbrev pub invariant-back : goal.invariant-back
invariant-back l = IsWentBack l.query l.most l.fn.self l.self

abbrev pub decreases-back : goal.decreases-back
decreases-back l = l.self.depth
