use Rattle.std.proofs.Common.{◌≡◌}
use Rattle.mk_choice.proofs.ForCallers.{codes_left}
use Rattle.mk_enum.proofs.NextLemmas.{HasPassed}
use Rattle.mk_enum.proofs.enumeration.next_structure.Given as goal

abbrev pub invariant-loop-code : goal.invariant-loop-code
invariant-loop-code l = record {
  passed : HasPassed l.query l.fn.left.place l.left.place;
  query : l.left.query ≡ l.query;
  same : l.text.items ≡ l.fn.text.items;
}

abbrev pub decreases-loop-code : goal.decreases-loop-code
decreases-loop-code l = codes_left l.query l.left.place
