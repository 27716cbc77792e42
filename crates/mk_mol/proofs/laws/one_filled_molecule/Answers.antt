use Rattle.mk_mol.proofs.LawLemmas.{one_filled}
use Rattle.mk_mol.proofs.laws.one_filled_molecule.Goals as goal

pub returns : goal.returns
returns c = one_filled c.marks_determine_bonds.ensures.molecules
