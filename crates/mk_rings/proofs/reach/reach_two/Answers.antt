use Rattle.std.proofs.Common.{◌≡◌, ◌<◌, ◌-◌, ◌∙◌, arith, get_or, length, set, sym}
use Rattle.std.proofs.lemmas.Bool.{true≢false}
use Rattle.mk_marks.specs.SixRings.{set_of}
use Rattle.mk_rings.proofs.GrowLemmas.{end_within}
use Rattle.mk_rings.proofs.ReachLemmas.{EachTo-all, EachTo-more, EachTo-skip, Further-more, below-set, stamp-here, stamps-kept}
use Rattle.mk_rings.proofs.reach.reach_two.Goals as goal

pub loop-i-preserved-then-not-takes : goal.loop-i-preserved-then-not-takes
loop-i-preserved-then-not-takes c = record {
  led = EachTo-skip c.args.bonds.now (set_of c.args.marks.now) c.args.y c.args.label c.numbers_of-numbers.result.now
      c.loop-i.i c.step_over-over.result.bond (λ z. get_or c.loop-i.two z 0 ≡ c.args.stamp)
      c.step_over-over.ensures.number (λ t. true≢false (sym (c.takes.ensures.1 t) ∙ c.if-not-takes.true))
      c.loop-i.invariant.led;
  kept = c.loop-i.invariant.kept;
  further = c.loop-i.invariant.further;
  below_two = c.loop-i.invariant.below_two;
  below_three = c.loop-i.invariant.below_three;
}

pub bounds-two-over : goal.bounds-two-over
bounds-two-over c =
    let end = end_within (length c.args.near.now) c.args.bonds.now _ c.args.y c.step_over-over.result.to c.requires.ends c.step_over-over.ensures.joined in
    omega (arith, end.1, c.loop-i.auto.two, c.requires.two)

pub loop-i-preserved-then-two-over : goal.loop-i-preserved-then-two-over
loop-i-preserved-then-two-over c = record {
  led =
      EachTo-more c.args.bonds.now (set_of c.args.marks.now) c.args.y c.args.label c.numbers_of-numbers.result.now c.loop-i.i c.step_over-over.result.bond c.step_over-over.result.to
      (λ z. get_or c.loop-i.two z 0 ≡ c.args.stamp) (λ z. get_or c.loop-i.two z 0 ≡ c.args.stamp)
      c.step_over-over.ensures.number c.step_over-over.ensures.joined (λ z was. was) c.if-two-over.true c.loop-i.invariant.led;
  kept = c.loop-i.invariant.kept;
  further = c.loop-i.invariant.further;
  below_two = c.loop-i.invariant.below_two;
  below_three = c.loop-i.invariant.below_three;
}

pub reach_three-requires-clause-atom : goal.reach_three-requires-clause-atom
reach_three-requires-clause-atom c = end_within (length c.args.near.now) c.args.bonds.now _ c.args.y c.step_over-over.result.to c.requires.ends c.step_over-over.ensures.joined

pub bounds-two-over-in-loop-i : goal.bounds-two-over-in-loop-i
bounds-two-over-in-loop-i c =
    let end = end_within (length c.args.near.now) c.args.bonds.now _ c.args.y c.step_over-over.result.to c.requires.ends c.step_over-over.ensures.joined in
    omega (arith, end.1, c.loop-i.auto.two, c.requires.two)

pub loop-i-preserved : goal.loop-i-preserved
loop-i-preserved c =
    let end = end_within (length c.args.near.now) c.args.bonds.now _ c.args.y c.step_over-over.result.to c.requires.ends c.step_over-over.ensures.joined in
    let inside : c.step_over-over.result.to < length c.loop-i.two = omega (arith, end.1, c.loop-i.auto.two, c.requires.two) in
    let kept = stamps-kept c.loop-i.two c.step_over-over.result.to c.args.stamp inside in
    record {
      led =
          EachTo-more c.args.bonds.now (set_of c.args.marks.now) c.args.y c.args.label c.numbers_of-numbers.result.now c.loop-i.i c.step_over-over.result.bond c.step_over-over.result.to
          (λ z. get_or c.loop-i.two z 0 ≡ c.args.stamp) (λ z. get_or (set c.loop-i.two c.step_over-over.result.to c.args.stamp) z 0 ≡ c.args.stamp)
          c.step_over-over.ensures.number c.step_over-over.ensures.joined kept (stamp-here c.loop-i.two c.step_over-over.result.to c.args.stamp inside) c.loop-i.invariant.led;
      kept = λ z was. kept z (c.loop-i.invariant.kept z was);
      further = Further-more c.args.bonds.now (set_of c.args.marks.now) (3 - c.args.label) c.loop-i.two c.loop-i.three
          c.reach_three.new.three c.args.stamp c.step_over-over.result.to c.reach_three.ensures.kept
          c.reach_three.ensures.led c.loop-i.invariant.further;
      below_two = λ was. below-set c.loop-i.two c.step_over-over.result.to c.args.stamp _ (omega arith) (c.loop-i.invariant.below_two was);
      below_three = λ was. c.reach_three.ensures.below (c.loop-i.invariant.below_three was);
    }

pub returns-clause-led : goal.returns-clause-led
returns-clause-led c =
    EachTo-all c.args.bonds.now (set_of c.args.marks.now) c.args.y c.args.label c.numbers_of-numbers.result.now
    c.loop-i.i (λ z. get_or c.loop-i.two z 0 ≡ c.args.stamp) c.numbers_of-numbers.ensures c.loop-i-test.false
    c.loop-i.invariant.led
