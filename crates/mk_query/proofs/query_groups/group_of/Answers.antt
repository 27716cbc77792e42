use Rattle.std.proofs.Common.{◌∙◌, Option, subst, sym}
use Rattle.std.specs.Prelude.{IfOk}
use Rattle.mk_props.specs.declared.property.LogicLine.{LogicLine}
use Rattle.mk_query.specs.Compiled.{IsLogicOf}
use Rattle.mk_query.proofs.GroupLemmas.{logic_here, logic_none, logic_on}
use Rattle.mk_query.proofs.query_groups.group_of.Goals as goal

pub loop-i-preserved : goal.loop-i-preserved
loop-i-preserved c = logic_on c.args.g c.loop-i.i c.args.props.now c.index-props-i.result c.loop-i-test.true c.index-props-i.is (sym c.names_group.ensures ∙ c.if-names_group.false) c.loop-i.invariant

pub returns-then-names_group-clause-logic : goal.returns-then-names_group-clause-logic
returns-then-names_group-clause-logic c =
    subst (λ (found : Option LogicLine). IfOk c.group_by.result (IsLogicOf found))
    (logic_here c.args.g c.loop-i.i c.args.props.now c.index-props-i.result c.loop-i-test.true c.index-props-i.is
    (sym c.names_group.ensures ∙ c.if-names_group.true) c.loop-i.invariant) c.group_by.ensures.logic

pub returns-clause-logic : goal.returns-clause-logic
returns-clause-logic c =
    subst (λ (found : Option LogicLine). IfOk c.plain_group.result (IsLogicOf found))
    (logic_none c.args.g c.loop-i.i c.args.props.now c.loop-i-test.false c.loop-i.invariant)
    c.plain_group.ensures.logic
