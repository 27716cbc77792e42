use Rattle.mk_choice.proofs.FrameLemmas.{IsSought}
use Rattle.mk_choice.proofs.frames.Frames.seek.Given as goal

abbrev pub invariant-loop-i : goal.invariant-loop-i
invariant-loop-i l = IsSought l.query l.most l.front l.i l.self
