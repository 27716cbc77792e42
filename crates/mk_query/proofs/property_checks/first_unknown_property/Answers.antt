use Rattle.std.proofs.Common.{sym, ◌∙◌}
use Rattle.std.proofs.lemmas.Bool.{true≢false}
use Rattle.mk_query.specs.Checks.{IsQueryProperty}
use Rattle.mk_text.proofs.ForCallers.{items-more, items-fail, items-all}
use Rattle.mk_query.proofs.property_checks.first_unknown_property.Goals as goal

pub loop-i-preserved : goal.loop-i-preserved
loop-i-preserved c = items-more (IsQueryProperty c.args.atoms) c.args.props.now c.loop-i.i c.index-props-i.result
    c.index-props-i.is (c.is_query_property.ensures.0 c.if-not-is_query_property.false) c.loop-i.invariant

pub returns-then-not-is_query_property : goal.returns-then-not-is_query_property
returns-then-not-is_query_property c =
    items-fail (IsQueryProperty c.args.atoms) c.args.props.now c.loop-i.i c.index-props-i.result c.loop-i-test.true c.index-props-i.is
    (λ p. true≢false (sym (c.is_query_property.ensures.1 p) ∙ c.if-not-is_query_property.true)) c.loop-i.invariant

pub returns : goal.returns
returns c = items-all (IsQueryProperty c.args.atoms) c.args.props.now c.loop-i.i c.loop-i-test.false c.loop-i.invariant
