use Rattle.std.proofs.Common.{sym, ◌∙◌}
use Rattle.std.proofs.lemmas.Bool.{true≢false}
use Rattle.mk_mol.specs.Checks.{IsOfMolecules}
use Rattle.mk_text.proofs.ForCallers.{items-more, items-fail, items-all}
use Rattle.mk_mol.proofs.property_checks.first_foreign.Goals as goal

pub loop-i-preserved : goal.loop-i-preserved
loop-i-preserved c = items-more IsOfMolecules c.args.props.now c.loop-i.i c.index-props-i.result c.index-props-i.is (c.is_of_molecules.ensures.0 c.if-not-is_of_molecules.false) c.loop-i.invariant

pub returns-then-not-is_of_molecules : goal.returns-then-not-is_of_molecules
returns-then-not-is_of_molecules c =
    items-fail IsOfMolecules c.args.props.now c.loop-i.i c.index-props-i.result c.loop-i-test.true c.index-props-i.is
    (λ p. true≢false (sym (c.is_of_molecules.ensures.1 p) ∙ c.if-not-is_of_molecules.true)) c.loop-i.invariant

pub returns : goal.returns
returns c = items-all IsOfMolecules c.args.props.now c.loop-i.i c.loop-i-test.false c.loop-i.invariant
