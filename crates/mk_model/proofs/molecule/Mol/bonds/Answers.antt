use Rattle.std.proofs.Common.{◌∙◌, ap, subst}
use Rattle.mk_model.specs.Molecules.{IsMolecule, Molecule}
use Rattle.mk_model.proofs.molecule.Mol.bonds.Goals as goal

pub returns : goal.returns
returns c = record { list = c.as_slice.ensures.value ∙ ap (λ (m : Molecule). m.bonds) c.self.view_is; kept = subst IsMolecule c.self.view_is c.self.invariant.molecule }
