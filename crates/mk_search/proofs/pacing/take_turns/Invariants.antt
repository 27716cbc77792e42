use Rattle.std.proofs.Common.{◌≡◌, ◌≤◌, ◌<◌, ◌+◌, ◌-◌, length}
use Rattle.mk_search.proofs.PacedLemmas.{HasPacedTo}
use Rattle.mk_search.proofs.pacing.take_turns.Given as goal

abbrev pub invariant-loop-spent : goal.invariant-loop-spent
invariant-loop-spent g l = record {
  keys : HasPacedTo l.fn.hits.rows l.fn.hits.query l.fn.hits.place l.hits l.keys.items l.spent l.fn.begins l.begins;
  fewer : length l.keys.items < l.limit;
  within : l.spent ≤ l.budget;
  counted : l.turns ≡ l.fn.turns + l.spent;
  steps : l.fn.begins ≤ l.begins;
}

abbrev pub decreases-loop-spent : goal.decreases-loop-spent
decreases-loop-spent g l = l.budget - l.spent
