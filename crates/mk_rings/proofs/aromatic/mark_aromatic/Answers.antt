use Rattle.std.proofs.Common.{◌∙◌, ◌<◌, length, arith}
use Rattle.mk_marks.proofs.ClosedLemmas.{Marks-done, kind_within}
use Rattle.mk_rings.proofs.RoundLemmas.{marked_within}
use Rattle.mk_rings.proofs.aromatic.mark_aromatic.Goals as goal

pub loop-marks-init : goal.loop-marks-init
loop-marks-init c = record {
  four = λ b kind. c.spread.ensures.spreads.kept b ((c.mark_type_four.ensures b (kind_within c.args.bonds.now b 4 kind)).1 kind);
  queue = c.spread.ensures.queue;
  within = λ s closed.
      c.spread.ensures.spreads.within s closed (λ b marked.
      let below : b < length c.args.bonds.now = omega (arith, marked_within c.mark_type_four.new.marks b marked, c.mark_type_four.auto.marks, c.requires.size) in
      closed.type_four b ((c.mark_type_four.ensures b below).0 marked));
}

pub returns : goal.returns
returns c =
    Marks-done c.args.bonds.now c.mark_round.new.marks
    (c.mark_round.auto.marks ∙ c.loop-marks.auto.marks ∙ c.spread.auto.marks ∙ c.mark_type_four.auto.marks ∙ c.requires.size)
    (λ b kind. c.mark_round.ensures.grows.spreads.kept b (c.loop-marks.invariant.four b kind))
    (λ s closed. c.mark_round.ensures.grows.spreads.within s closed (c.loop-marks.invariant.within s closed))
    (c.mark_round.ensures.done c.loop-marks-test.false)
