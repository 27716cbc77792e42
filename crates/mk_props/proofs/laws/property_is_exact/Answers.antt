use Rattle.mk_props.proofs.PropertyLemmas.{properties_are_read}
use Rattle.mk_props.proofs.laws.property_is_exact.Goals as goal

pub returns : goal.returns
returns c = properties_are_read
