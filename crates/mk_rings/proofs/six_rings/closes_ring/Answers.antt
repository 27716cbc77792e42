use Rattle.mk_marks.specs.SixRings.{set_of}
use Rattle.mk_rings.proofs.RoundLemmas.{closes_none}
use Rattle.mk_rings.proofs.six_rings.closes_ring.Goals as goal

pub returns-clause-none : goal.returns-clause-none
returns-clause-none c = λ edge at reached no closes.
    closes_none c.args.bonds.now (set_of c.args.marks.now) c.args.b edge _ c.args.two.now c.args.three.now
    c.args.stamp at c.if-edge-lt1.false c.if-edge-gt2.false reached (λ skip. c.can_close.ensures.open skip no)
    closes
