use Rattle.mk_query.proofs.FollowLemmas.{IsFollowed}
use Rattle.mk_query.proofs.blocks.follow.Given as goal

abbrev pub invariant-loop-number : goal.invariant-loop-number
invariant-loop-number l = IsFollowed l.bonds l.link l.y l.numbers l.fn.reached.items l.fn.queue.items l.number-index l.reached.items l.queue.items
