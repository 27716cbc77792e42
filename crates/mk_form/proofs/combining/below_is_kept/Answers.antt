-- The lemmas of proofs/Below.antt are the law.
use Rattle.mk_form.proofs.Below.{below-sequence, below-seen_as, below-up_to, below-either, below-first}
use Rattle.mk_form.proofs.combining.below_is_kept.Goals as goal

pub returns-clause-sequence : goal.returns-clause-sequence
returns-clause-sequence g c = λ w. below-sequence g.P.AnyPart.part w

pub returns-clause-seen_as : goal.returns-clause-seen_as
returns-clause-seen_as g c = λ w. below-seen_as g.F.AnyView.seen w

pub returns-clause-up_to : goal.returns-clause-up_to
returns-clause-up_to g c = λ w. below-up_to g.B.AnyTest.passes w

pub returns-clause-either : goal.returns-clause-either
returns-clause-either g c = λ w. below-either g.P.AnyPart.part w

pub returns-clause-first : goal.returns-clause-first
returns-clause-first g c = λ none. below-first g.C.AnyPart.part none
