use Rattle.mk_rings.proofs.RoundLemmas.{Spreads-on}
use Rattle.mk_rings.proofs.spreading.spread.Goals as goal

pub loop-head-preserved : goal.loop-head-preserved
loop-head-preserved c =
    let first = Spreads-on c.args.bonds.now c.args.marks.now c.loop-head.marks c.spread_at-tail.new.marks c.loop-head.invariant.spreads c.spread_at-tail.ensures.spreads in
    record {
      spreads = Spreads-on c.args.bonds.now c.args.marks.now c.spread_at-tail.new.marks c.spread_at-tail-in-loop-head.new.marks first c.spread_at-tail-in-loop-head.ensures.spreads;
      queue = c.spread_at-tail-in-loop-head.ensures.queue;
      room = c.spread_at-tail-in-loop-head.ensures.room;
    }
