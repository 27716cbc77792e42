use Rattle.std.proofs.Common.{◌∙◌, refl}
use Rattle.mk_search.proofs.occurrences.passes_front.Goals as goal

pub returns-clause-passed : goal.returns-clause-passed
returns-clause-passed c = λ _ n. record {
  code = c.item-code.result.now;
  placed = c.item-code.ensures;
  n = c.in-Some.n;
  none = rw c.in-Some.is at c.in_ok-n.ensures.passed;
  at = c.deref.result.now;
  behind = c.deref.ensures.value ∙ c.in_ok-put_behind_front.ensures;
  made = c.in_ok-rewind.ensures.left;
  shut = refl;
  same_count = refl;
}
