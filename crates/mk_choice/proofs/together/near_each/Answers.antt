use Rattle.mk_choice.proofs.LimitLemmas.{known_drop}
use Rattle.mk_choice.proofs.SlotLemmas.{known_at, known_dropped}
use Rattle.mk_choice.proofs.together.near_each.Goals as goal

pub at-requires-clause-known : goal.at-requires-clause-known
at-requires-clause-known c = known_dropped c.args.waiting.now c.loop-place.place c.loop-place.invariant.known

pub set_served-set-requires-clause-labels : goal.set_served-set-requires-clause-labels
set_served-set-requires-clause-labels c = rw c.labels.ensures (known_at c.args.waiting.now c.loop-place.place c.at.result.now c.loop-place.invariant.known c.at.ensures).labels

pub loop-place-preserved : goal.loop-place-preserved
loop-place-preserved c = record {
  size = c.loop-i.invariant;
  known = known_drop c.args.waiting.now c.loop-place.place c.at.result.now c.at.ensures c.loop-place.invariant.known;
}
