use Rattle.mk_match.proofs.MapsLemmas.{next_is_first, none_is_left}
use Rattle.mk_match.proofs.laws.hits_are_taken_in_order.Goals as goal

pub returns : goal.returns
returns c = record { first = next_is_first; none = none_is_left }
