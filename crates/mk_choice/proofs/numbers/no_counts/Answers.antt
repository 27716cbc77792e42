use Rattle.mk_choice.proofs.ValidLemmas.{counts_none, none_counted}
use Rattle.mk_choice.proofs.numbers.no_counts.Goals as goal

pub returns : goal.returns
returns c = record { none = none_counted 32; counts = counts_none }
