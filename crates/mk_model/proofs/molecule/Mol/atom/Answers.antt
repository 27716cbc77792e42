use Rattle.std.proofs.Common.{◌≡◌, ◌-◌, ◌<◌, ◌∙◌, List, Some, ap, length, subst, sym, arith}
use Rattle.std.specs.Prelude.{slice_get}
use Rattle.mk_model.specs.declared.molecule.Atom.{Atom}
use Rattle.mk_model.specs.Molecules.{IsElement, Molecule}
use Rattle.mk_model.proofs.PlaceLemmas.{at_place}
use Rattle.mk_model.proofs.molecule.Mol.atom.Goals as goal

pub returns : goal.returns
returns c =
    let items = c.self.inside.atoms.items in
    let seen : items ≡ c.args.self.now.atoms = ap (λ (m : Molecule). m.atoms) c.self.view_is in
    let place = c.args.n - 1 in
    let atom = c.index.result.now in
    let below : place < length items = omega (arith, ap length seen, c.requires.least, c.requires.most) in
    record {
      atom = subst (λ (atoms : List Atom). slice_get atoms place ≡ Some atom) seen (at_place items place atom below ∙ ap (λ (x : Atom). Some x) (sym c.index.ensures));
      element = subst (λ (x : Atom). IsElement x.element) (sym c.index.ensures) (c.self.invariant.molecule.elements place atom below);
    }
