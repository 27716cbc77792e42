use Rattle.std.proofs.Common.{sym, ◌∙◌}
use Rattle.std.proofs.lemmas.Bool.{true≢false}
use Rattle.mk_demands.specs.Values.{NamesAtoms}
use Rattle.mk_text.proofs.ForCallers.{items-more, items-fail, items-all}
use Rattle.mk_mol.proofs.property_checks.first_misnamed.Goals as goal

pub loop-i-preserved : goal.loop-i-preserved
loop-i-preserved c = items-more (NamesAtoms c.args.atoms) c.args.props.now c.loop-i.i c.index-props-i.result c.index-props-i.is (c.names_atoms.ensures.0 c.if-not-names_atoms.false) c.loop-i.invariant

pub returns-then-not-names_atoms : goal.returns-then-not-names_atoms
returns-then-not-names_atoms c =
    items-fail (NamesAtoms c.args.atoms) c.args.props.now c.loop-i.i c.index-props-i.result c.loop-i-test.true c.index-props-i.is
    (λ p. true≢false (sym (c.names_atoms.ensures.1 p) ∙ c.if-not-names_atoms.true)) c.loop-i.invariant

pub returns : goal.returns
returns c = items-all (NamesAtoms c.args.atoms) c.args.props.now c.loop-i.i c.loop-i-test.false c.loop-i.invariant
