use Rattle.std.proofs.Common.{sym, ◌∙◌}
use Rattle.mk_tests.proofs.FitLemmas.{fits_by, meets_around}
use Rattle.mk_tests.proofs.atoms.atom_fits.Goals as goal

pub returns-then-meets_alone : goal.returns-then-meets_alone
returns-then-meets_alone c =
    let asked_at = rw c.atoms.ensures.list at c.atom_numbered-asked.ensures in (
      λ yes.
          fits_by c.args.graph.now c.args.mol.now c.args.x c.args.m c.atom_numbered-asked.result.now c.atom-atom.result asked_at c.atom-atom.ensures.atom
          (sym c.meets_alone.ensures ∙ c.if-meets_alone.true) (sym c.meets_around.ensures ∙ yes),
      λ fits. c.meets_around.ensures ∙ meets_around c.args.graph.now c.args.mol.now c.args.x c.args.m c.atom_numbered-asked.result.now asked_at fits,
    )
