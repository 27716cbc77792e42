use Rattle.std.proofs.Common.{sym, ◌∙◌}
use Rattle.mk_tests.proofs.FitLemmas.{lies_by, lies_only, lies_never}
use Rattle.mk_tests.proofs.bonds.bond_fits.Goals as goal

pub returns-in-Some : goal.returns-in-Some
returns-in-Some c = λ other is_other.
    let is_asked = c.bond-asked.ensures.bond in (
      λ yes.
          lies_by c.args.mol.now _ c.bond-asked.result other c.args.a c.args.b c.bond_between.result c.in-Some.bond is_asked is_other c.bond_between.ensures c.in-Some.is
          (sym c.bond_meets.ensures ∙ yes),
      λ lies.
          c.bond_meets.ensures
          ∙ lies_only c.args.mol.now _ c.bond-asked.result other c.args.a c.args.b c.bond_between.result c.in-Some.bond is_asked is_other c.bond_between.ensures c.in-Some.is lies,
    )

pub returns-in-None : goal.returns-in-None
returns-in-None c = λ other is_other. (
  λ yes. absurd cc,
  λ lies. absurd (lies_never c.args.mol.now other c.args.a c.args.b c.bond_between.result c.bond_between.ensures c.in-None.is lies),
)
