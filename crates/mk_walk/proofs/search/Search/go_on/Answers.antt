use Rattle.std.proofs.Common.{refl}
use Rattle.mk_walk.proofs.search.Search.go_on.Goals as goal

pub search-preserved : goal.search-preserved
search-preserved c = (c.in-Moved.ensures.kept, λ place left. c.in-Moved.ensures.next place (c.search.invariant.1 place left))

pub returns-in-Item-clause-least : goal.returns-in-Item-clause-least
returns-in-Item-clause-least c = λ _ place left. c.in-Item.ensures.next place (c.search.invariant.1 place left)

pub returns-in-End-clause-none : goal.returns-in-End-clause-none
returns-in-End-clause-none c = λ _ place left. c.in-End.ensures.next place (c.search.invariant.1 place left)

pub returns-in-End-clause-ended : goal.returns-in-End-clause-ended
returns-in-End-clause-ended c = λ _ place left. rw (c.in-End.ensures.end refl) (c.in-End.ensures.next place (c.search.invariant.1 place left))

pub returns-in-End-clause-unowed : goal.returns-in-End-clause-unowed
returns-in-End-clause-unowed c = λ _ place debt. rw (c.in-End.ensures.end refl) tt
