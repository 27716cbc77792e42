use Rattle.mk_query.proofs.AtomLemmas.{named_from}
use Rattle.mk_query.proofs.atom_checks.is_element_name.Goals as goal

pub returns : goal.returns
returns c = named_from _ _ _ c.is_some.ensures c.number_of.ensures.names
