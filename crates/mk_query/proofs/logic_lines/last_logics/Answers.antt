use Rattle.mk_query.proofs.LogicLemmas.{last-none, last-more, last-all}
use Rattle.mk_query.proofs.logic_lines.last_logics.Goals as goal

pub loop-i-init : goal.loop-i-init
loop-i-init c = last-none c.args.props.now c.in_ok-last.last.items (c.in_ok-last.ensures.items_if_clones_equal (λ y e. e))

pub loop-i-preserved : goal.loop-i-preserved
loop-i-preserved c = last-more c.args.props.now c.loop-i.i c.index-props-i.result c.loop-i.last.items
    c.mark_logic.new.last.items c.loop-i-test.true c.index-props-i.is c.mark_logic.ensures c.loop-i.invariant

pub returns : goal.returns
returns c = last-all c.args.props.now c.loop-i.i c.loop-i.last.items c.loop-i.auto.i-end c.loop-i-test.false c.loop-i.invariant
