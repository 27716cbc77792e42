use Rattle.mk_values.proofs.TableMoleculeLemmas.{fault_or_molecule}
use Rattle.mk_values.proofs.laws.tables_are_molecules.Goals as goal

pub returns : goal.returns
returns c = fault_or_molecule
