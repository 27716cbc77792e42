use Rattle.mk_choice.specs.Frames.{from_of}
use Rattle.mk_choice.proofs.CodesLeftLemmas.{nodes_left}
use Rattle.mk_choice.proofs.FrameLemmas.{HasNoneUpTo}
use Rattle.mk_choice.proofs.frames.Frames.next_code.Given as goal

abbrev pub invariant-nodes : goal.invariant-nodes
invariant-nodes l = HasNoneUpTo l.query l.most l.fn.self l.self

abbrev pub decreases-nodes : goal.decreases-nodes
decreases-nodes l = nodes_left l.query (from_of l.self)
