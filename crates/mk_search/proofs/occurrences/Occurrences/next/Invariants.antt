use Rattle.std.proofs.Common.{◌≤◌}
use Rattle.mk_choice.proofs.CodesLeftLemmas.{nodes_left}
use Rattle.mk_search.specs.Occurrences.{BelongsTo}
use Rattle.mk_search.specs.Passing.{KnowOf}
use Rattle.mk_search.proofs.NextLemmas.{HasOpened}
use Rattle.mk_search.proofs.occurrences.Occurrences.next.Given as goal

abbrev pub invariant-loop-self : goal.invariant-loop-self
invariant-loop-self g l = record {
  opened : HasOpened l.fn.self.query.now l.row.mol.now l.place l.fn.self.codes.place l.self.codes l.self.open l.fn.steps l.steps;
  know : KnowOf l.row.mol.now l.self.fronts;
  belongs : BelongsTo l.fn.self.query.now l.self;
  steps : l.fn.steps ≤ l.steps;
}

abbrev pub decreases-loop-self : goal.decreases-loop-self
decreases-loop-self g l = nodes_left l.fn.self.query.now l.self.codes.place
