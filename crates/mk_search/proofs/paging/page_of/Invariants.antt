use Rattle.std.proofs.Common.{◌≤◌, ◌-◌, length}
use Rattle.mk_search.proofs.HitsLemmas.{HasKeysTo}
use Rattle.mk_search.proofs.paging.page_of.Given as goal

abbrev pub invariant-loop-hits : goal.invariant-loop-hits
invariant-loop-hits g l = record {
  keys : HasKeysTo l.fn.hits.rows l.fn.hits.query l.fn.hits.place l.hits l.keys.items l.fn.steps l.steps;
  few : length l.keys.items ≤ l.limit;
  steps : l.fn.steps ≤ l.steps;
}

abbrev pub decreases-loop-hits : goal.decreases-loop-hits
decreases-loop-hits g l = l.limit - length l.keys.items
