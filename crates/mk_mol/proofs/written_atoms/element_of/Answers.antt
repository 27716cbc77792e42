use Rattle.mk_mol.proofs.NameLemmas.{some_is}
use Rattle.mk_mol.proofs.written_atoms.element_of.Goals as goal

pub unwrap-requires : goal.unwrap-requires
unwrap-requires c = some_is _ _ ((c.number_of.ensures.names c.requires.element).1 c.requires.names)
