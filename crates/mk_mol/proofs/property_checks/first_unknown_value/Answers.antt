use Rattle.std.proofs.Common.{sym, ◌∙◌}
use Rattle.std.proofs.lemmas.Bool.{true≢false}
use Rattle.mk_demands.specs.Values.{HasKnownValues}
use Rattle.mk_text.proofs.ForCallers.{items-more, items-fail, items-all}
use Rattle.mk_mol.proofs.property_checks.first_unknown_value.Goals as goal

pub loop-i-preserved : goal.loop-i-preserved
loop-i-preserved c = items-more HasKnownValues c.args.props.now c.loop-i.i c.index-props-i.result c.index-props-i.is (c.has_known_values.ensures.0 c.if-not-has_known_values.false) c.loop-i.invariant

pub returns-then-not-has_known_values : goal.returns-then-not-has_known_values
returns-then-not-has_known_values c =
    items-fail HasKnownValues c.args.props.now c.loop-i.i c.index-props-i.result c.loop-i-test.true c.index-props-i.is
    (λ p. true≢false (sym (c.has_known_values.ensures.1 p) ∙ c.if-not-has_known_values.true)) c.loop-i.invariant

pub returns : goal.returns
returns c = items-all HasKnownValues c.args.props.now c.loop-i.i c.loop-i-test.false c.loop-i.invariant
