use Rattle.std.proofs.Common.{◌∷◌, [], ◌-◌, ◌≤◌}
use Rattle.mk_search.specs.Occurrences.{BelongsTo}
use Rattle.mk_search.proofs.SearchedLemmas.{HasSearched}
use Rattle.mk_search.proofs.finding.turn_in_records.Given as goal

abbrev pub invariant-records : goal.invariant-records
invariant-records g l = record {
  searched : HasSearched l.shelf.rows l.fn.all.query.now l.place (l.fn.from ∷ []) l.next l.fn.steps l.steps;
  belongs : BelongsTo l.fn.all.query.now l.all;
  later : l.fn.from ≤ l.next;
  steps : l.fn.steps ≤ l.steps;
}

abbrev pub decreases-records : goal.decreases-records
decreases-records g l = 4294967296 - l.next
