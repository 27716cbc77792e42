use Rattle.mk_choice.proofs.CodesLemmas.{next_is_first, none_between, none_is_left}
use Rattle.mk_choice.proofs.laws.codes_are_taken_in_order.Goals as goal

pub returns : goal.returns
returns c = record { first = next_is_first; none = none_is_left; between = none_between }
