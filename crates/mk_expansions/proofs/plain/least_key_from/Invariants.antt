use Rattle.std.proofs.Common.{◌≡◌, ◌≤◌}
use Rattle.mk_choice.proofs.ForCallers.{codes_left}
use Rattle.mk_expansions.proofs.PlainLemmas.{NoneFound}
use Rattle.mk_expansions.proofs.plain.least_key_from.Given as goal

abbrev pub invariant-loop-code : goal.invariant-loop-code
invariant-loop-code g l = record {
  none : NoneFound l.query l.mol l.place l.fn.codes.place l.codes.place;
  query : l.codes.query ≡ l.query;
  steps : l.fn.steps ≤ l.steps;
}

abbrev pub decreases-loop-code : goal.decreases-loop-code
decreases-loop-code g l = codes_left l.query l.codes.place
