use Rattle.mk_mol.proofs.HydrogenLemmas.{All-kinds_of}
use Rattle.mk_mol.proofs.hydrogen_filling.gained.Goals as goal

pub hydrogens-requires-clause-kinds : goal.hydrogens-requires-clause-kinds
hydrogens-requires-clause-kinds c = rw c.put_kinds.ensures (All-kinds_of c.args.edges.now c.args.numbers.now c.requires.kinds c.requires.within)
