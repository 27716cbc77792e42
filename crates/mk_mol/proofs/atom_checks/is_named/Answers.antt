use Rattle.mk_mol.proofs.NameLemmas.{named_from}
use Rattle.mk_mol.proofs.atom_checks.is_named.Goals as goal

pub returns : goal.returns
returns c = named_from _ _ _ c.is_some.ensures c.number_of.ensures.names
