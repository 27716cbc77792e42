use Rattle.mk_walk.proofs.WalkLemmas.{IsSeeking}
use Rattle.mk_walk.proofs.walk.Walk.seek.Given as goal

abbrev pub invariant-loop-i : goal.invariant-loop-i
invariant-loop-i l = IsSeeking l.graph l.mol l.front l.i l.self.images.items l.self.levels.items l.self.depth l.self.above
