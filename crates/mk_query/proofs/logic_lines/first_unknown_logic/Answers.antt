use Rattle.std.proofs.Common.{◌+◌, ◌∙◌, ℕ, drop, sym}
use Rattle.std.specs.Prelude.{◌↔◌, IsTrue}
use Rattle.std.proofs.lemmas.Bool.{true≢false}
use Rattle.mk_props.specs.declared.property.Property.{Property}
use Rattle.mk_query.specs.LinkChecks.{IsLogical}
use Rattle.mk_query.proofs.LogicLemmas.{right_is}
use Rattle.mk_query.proofs.NumberedLemmas.{numbered-more, numbered-fail, numbered-all}
use Rattle.mk_query.proofs.logic_lines.first_unknown_logic.Goals as goal
use Rattle.mk_query.proofs.logic_lines.first_unknown_logic.Goals.{In_ok-right}

right : (c : In_ok-right) → IsTrue c.in_ok-right.right ↔ IsLogical c.args.is_root (drop (c.loop-i.i + 1) c.args.props.now) c.index-props-i.result
right c =
    right_is c.args.is_root c.args.props.now c.in_ok-last.last.items c.loop-i.i c.index-props-i.result c.in_ok-right.right c.in_ok-last.ensures c.loop-i-test.true c.index-props-i.is
    (rw c.deref.ensures.value at c.in_ok-right.ensures)

pub loop-i-preserved : goal.loop-i-preserved
loop-i-preserved c =
    numbered-more (λ (j : ℕ) (p : Property). IsLogical c.args.is_root (drop j c.args.props.now) p) c.args.props.now c.loop-i.i c.index-props-i.result c.index-props-i.is
    ((right (goal.at.loop-i-preserved c).In_ok-right).0 c.if-not-right.false) c.loop-i.invariant

pub returns-then-not-right : goal.returns-then-not-right
returns-then-not-right c =
    numbered-fail (λ (j : ℕ) (p : Property). IsLogical c.args.is_root (drop j c.args.props.now) p) c.args.props.now c.loop-i.i c.index-props-i.result c.loop-i-test.true c.index-props-i.is
    (λ p. true≢false (sym ((right (goal.at.returns-then-not-right c).In_ok-right).1 p) ∙ c.if-not-right.true)) c.loop-i.invariant

pub returns : goal.returns
returns c = numbered-all (λ (j : ℕ) (p : Property). IsLogical c.args.is_root (drop j c.args.props.now) p) c.args.props.now c.loop-i.i c.loop-i-test.false c.loop-i.invariant
