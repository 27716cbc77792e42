use Rattle.std.proofs.Common.{◌≡◌, ◌<◌, ◌∙◌, arith, get_or, length, set, sym}
use Rattle.std.proofs.lemmas.Bool.{true≢false}
use Rattle.mk_marks.specs.SixRings.{set_of}
use Rattle.mk_rings.proofs.GrowLemmas.{end_within}
use Rattle.mk_rings.proofs.ReachLemmas.{EachTo-all, EachTo-more, EachTo-skip, below-set, stamp-here, stamps-kept}
use Rattle.mk_rings.proofs.reach.reach_three.Goals as goal

pub loop-i-preserved-then-not-takes : goal.loop-i-preserved-then-not-takes
loop-i-preserved-then-not-takes c = record {
  led = EachTo-skip c.args.bonds.now (set_of c.args.marks.now) c.args.z c.args.label c.numbers_of-numbers.result.now
      c.loop-i.i c.step_over-over.result.bond (λ w. get_or c.loop-i.three w 0 ≡ c.args.stamp)
      c.step_over-over.ensures.number (λ t. true≢false (sym (c.takes.ensures.1 t) ∙ c.if-not-takes.true))
      c.loop-i.invariant.led;
  kept = c.loop-i.invariant.kept;
  below = c.loop-i.invariant.below;
}

pub bounds-three-over : goal.bounds-three-over
bounds-three-over c =
    let end = end_within (length c.args.near.now) c.args.bonds.now _ c.args.z c.step_over-over.result.to c.requires.ends c.step_over-over.ensures.joined in
    omega (arith, end.1, c.loop-i.auto.three, c.requires.three)

pub loop-i-preserved : goal.loop-i-preserved
loop-i-preserved c =
    let end = end_within (length c.args.near.now) c.args.bonds.now _ c.args.z c.step_over-over.result.to c.requires.ends c.step_over-over.ensures.joined in
    let inside : c.step_over-over.result.to < length c.loop-i.three = omega (arith, end.1, c.loop-i.auto.three, c.requires.three) in
    let kept = stamps-kept c.loop-i.three c.step_over-over.result.to c.args.stamp inside in
    record {
      led =
          EachTo-more c.args.bonds.now (set_of c.args.marks.now) c.args.z c.args.label c.numbers_of-numbers.result.now c.loop-i.i c.step_over-over.result.bond c.step_over-over.result.to
          (λ w. get_or c.loop-i.three w 0 ≡ c.args.stamp) (λ w. get_or (set c.loop-i.three c.step_over-over.result.to c.args.stamp) w 0 ≡ c.args.stamp)
          c.step_over-over.ensures.number c.step_over-over.ensures.joined kept (stamp-here c.loop-i.three c.step_over-over.result.to c.args.stamp inside) c.loop-i.invariant.led;
      kept = λ w was. kept w (c.loop-i.invariant.kept w was);
      below = λ was. below-set c.loop-i.three c.step_over-over.result.to c.args.stamp _ (omega arith) (c.loop-i.invariant.below was);
    }

pub returns-clause-led : goal.returns-clause-led
returns-clause-led c =
    EachTo-all c.args.bonds.now (set_of c.args.marks.now) c.args.z c.args.label c.numbers_of-numbers.result.now
    c.loop-i.i (λ w. get_or c.loop-i.three w 0 ≡ c.args.stamp) c.numbers_of-numbers.ensures c.loop-i-test.false
    c.loop-i.invariant.led
