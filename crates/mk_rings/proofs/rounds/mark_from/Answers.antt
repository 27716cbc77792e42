use Rattle.std.proofs.Common.{Bool, arith, length, refl, subst}
use Rattle.std.proofs.lemmas.Bool.{true≢false}
use Rattle.mk_rings.proofs.RoundLemmas.{AreDoneFrom, AreDoneFrom-all, Grows-more}
use Rattle.mk_rings.proofs.rounds.mark_from.Goals as goal

pub loop-i-preserved : goal.loop-i-preserved
loop-i-preserved c = record {
  grows = Grows-more (length c.args.near.now) c.args.bonds.now c.args.marks.now c.step_over-b.result.bond c.loop-i.marks
      c.loop-i.some_marked c.requires.ends (omega (
        arith,
        c.step_over-b.ensures.bond,
        c.loop-i.auto.marks,
        c.requires.size,
      )) c.if-marks-b.false (c.if-not-closes_ring.ensures.ring refl) c.loop-i.invariant.grows;
  done = λ e. absurd (true≢false e);
}

pub returns-clause-done : goal.returns-clause-done
returns-clause-done c = λ none.
    let P : Bool → Type 0 = λ f. AreDoneFrom c.args.bonds.now c.loop-i.marks c.args.start c.args.kind c.numbers_of-numbers.result.now c.loop-i.i f in
    AreDoneFrom-all c.args.bonds.now c.loop-i.marks c.args.start c.args.kind c.numbers_of-numbers.result.now c.loop-i.i
    c.numbers_of-numbers.ensures c.loop-i-test.false (subst P none c.loop-i.invariant.done)
