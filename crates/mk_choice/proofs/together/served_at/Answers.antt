use Rattle.std.proofs.Common.{ap, arith}
use Rattle.mk_model.specs.Sizes.{greatest}
use Rattle.mk_choice.specs.Together.{free_in}
use Rattle.mk_choice.proofs.LimitLemmas.{known_drop, served_drop}
use Rattle.mk_choice.proofs.SlotLemmas.{known_at, known_dropped}
use Rattle.mk_choice.proofs.together.served_at.Goals as goal

pub at-requires-clause-known : goal.at-requires-clause-known
at-requires-clause-known c = known_dropped c.args.waiting.now c.loop-place.place c.loop-place.invariant.known

pub served_by_one-requires-clause-labels : goal.served_by_one-requires-clause-labels
served_by_one-requires-clause-labels c = rw c.labels.ensures (known_at c.args.waiting.now c.loop-place.place c.at.result.now c.loop-place.invariant.known c.at.ensures).labels

pub loop-place-preserved : goal.loop-place-preserved
loop-place-preserved c =
    let slots = c.args.waiting.now in
    let free = free_in c.args.free in
    record {
      known = known_drop slots c.loop-place.place c.at.result.now c.at.ensures c.loop-place.invariant.known;
      served = λ small.
          let labels = ap (greatest free) c.labels.ensures in
          let sums = c.saturating_add-sum.ensures in
          omega (arith, sums, labels, c.served_by_one.ensures, served_drop free slots c.loop-place.place c.at.result.now c.at.ensures, c.loop-place.invariant.served (omega (arith, sums, small)));
    }
