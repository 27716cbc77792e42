use Rattle.mk_model.proofs.MoleculesLemmas.{bond-exact}
use Rattle.mk_model.proofs.molecule.Mol.bond_between.Goals as goal

pub returns : goal.returns
returns c =
    bond-exact c.args.self.now c.args.a c.args.b c.find_bond.result c.bonds.ensures.kept
    (rw c.bonds.ensures.list at (rw c.bonds_at-numbers.ensures.numbers at c.find_bond.ensures))
