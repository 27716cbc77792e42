use Rattle.std.proofs.Common.{take}
use Rattle.mk_query.specs.Marks.{AreMore, IsNear}
use Rattle.mk_query.proofs.NearLemmas.{neighbours_by}
use Rattle.mk_query.proofs.drawn.neighbours_of.Given as goal

abbrev pub invariant-loop-bond : goal.invariant-loop-bond
invariant-loop-bond l = AreMore IsNear (neighbours_by (take l.bond-index l.bonds)) l.initial.near.items l.near.items
