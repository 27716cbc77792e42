use Rattle.std.proofs.Common.{◌≡◌, ◌-◌, ◌∙◌, ℕ, arith, length, subst, sym, ⊎_elim}
use Rattle.std.proofs.lemmas.Bool.{true≢false}
use Rattle.std.specs.Prelude.{◌⊎◌}
use Rattle.mk_marks.specs.SixRings.{set_of}
use Rattle.mk_rings.specs.Reach.{Further, LeadsToStamped}
use Rattle.mk_rings.proofs.GrowLemmas.{end_within}
use Rattle.mk_rings.proofs.ReachLemmas.{EachTo-all, EachTo-more, EachTo-none, EachTo-skip, Further-none}
use Rattle.mk_rings.proofs.reach.reach.Goals as goal

-- the label after the other one is the first again
twice : (label : ℕ) → (label ≡ 1) ⊎ (label ≡ 2) → 3 - (3 - label) ≡ label
twice label one_or_two = ⊎_elim (λ e. omega (arith, e)) (λ e. omega (arith, e)) one_or_two

pub loop-i-init : goal.loop-i-init
loop-i-init c = record {
  ends = EachTo-none c.args.bonds.now (set_of c.args.marks.now) c.args.start c.args.label
      c.numbers_of-numbers.result.now (LeadsToStamped c.args.bonds.now (set_of c.args.marks.now) (3 - c.args.label)
      c.args.two.now c.args.stamp);
  further = Further-none c.args.bonds.now (set_of c.args.marks.now) c.args.label c.args.two.now c.args.three.now c.args.stamp c.requires.new.0 c.requires.new.1;
  below_two = λ i inside. omega (arith, c.requires.new.1 i inside);
  below_three = λ was. was;
}

pub loop-i-preserved-then-not-takes : goal.loop-i-preserved-then-not-takes
loop-i-preserved-then-not-takes c = record {
  ends = EachTo-skip c.args.bonds.now (set_of c.args.marks.now) c.args.start c.args.label
      c.numbers_of-numbers.result.now c.loop-i.i c.step_over-over.result.bond
      (LeadsToStamped c.args.bonds.now (set_of c.args.marks.now) (3 - c.args.label) c.loop-i.two c.args.stamp)
      c.step_over-over.ensures.number (λ t. true≢false (sym (c.takes.ensures.1 t) ∙ c.if-not-takes.true))
      c.loop-i.invariant.ends;
  further = c.loop-i.invariant.further;
  below_two = c.loop-i.invariant.below_two;
  below_three = c.loop-i.invariant.below_three;
}

pub reach_two-requires-clause-atom : goal.reach_two-requires-clause-atom
reach_two-requires-clause-atom c = end_within (length c.args.near.now) c.args.bonds.now _ c.args.start c.step_over-over.result.to c.requires.ends c.step_over-over.ensures.joined

pub reach_two-requires-clause-further : goal.reach_two-requires-clause-further
reach_two-requires-clause-further c =
    let P : ℕ → Type 0 = λ l. Further c.args.bonds.now (set_of c.args.marks.now) l c.loop-i.two c.loop-i.three c.args.stamp in
    subst P (sym (twice c.args.label c.requires.label)) c.loop-i.invariant.further

pub loop-i-preserved : goal.loop-i-preserved
loop-i-preserved c =
    let P : ℕ → Type 0 = λ l. Further c.args.bonds.now (set_of c.args.marks.now) l c.reach_two.new.two c.reach_two.new.three c.args.stamp in
    record {
      ends =
          EachTo-more c.args.bonds.now (set_of c.args.marks.now) c.args.start c.args.label c.numbers_of-numbers.result.now c.loop-i.i c.step_over-over.result.bond c.step_over-over.result.to
          (LeadsToStamped c.args.bonds.now (set_of c.args.marks.now) (3 - c.args.label) c.loop-i.two c.args.stamp)
          (LeadsToStamped c.args.bonds.now (set_of c.args.marks.now) (3 - c.args.label) c.reach_two.new.two
          c.args.stamp)
          c.step_over-over.ensures.number c.step_over-over.ensures.joined (λ y led b w joined takes. c.reach_two.ensures.kept w (led b w joined takes)) c.reach_two.ensures.led c.loop-i.invariant.ends;
      further = subst P (twice c.args.label c.requires.label) c.reach_two.ensures.further;
      below_two = c.reach_two.ensures.below_two c.loop-i.invariant.below_two;
      below_three = λ was. c.reach_two.ensures.below_three (c.loop-i.invariant.below_three was);
    }

pub returns-clause-reached : goal.returns-clause-reached
returns-clause-reached c = record {
  ends = EachTo-all c.args.bonds.now (set_of c.args.marks.now) c.args.start c.args.label c.numbers_of-numbers.result.now
      c.loop-i.i (LeadsToStamped c.args.bonds.now (set_of c.args.marks.now) (3 - c.args.label) c.loop-i.two
      c.args.stamp) c.numbers_of-numbers.ensures c.loop-i-test.false c.loop-i.invariant.ends;
  further = c.loop-i.invariant.further;
}
