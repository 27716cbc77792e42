use Rattle.mk_rings.proofs.GraphLemmas.{HasPut}
use Rattle.mk_rings.proofs.graphs.put_marks.Given as goal

abbrev pub invariant-loop-b : goal.invariant-loop-b
invariant-loop-b l = HasPut l.rings l.aromatics l.fn.bonds.items l.bonds.items l.b
