use Rattle.mk_rings.proofs.RoundLemmas.{marks-four}
use Rattle.mk_rings.proofs.aromatic.mark_type_four.Goals as goal

pub returns : goal.returns
returns c = marks-four c.args.bonds.now c.loop-b.marks c.loop-b.b c.loop-b-test.false c.loop-b.invariant
