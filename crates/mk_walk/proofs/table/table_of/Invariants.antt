use Rattle.mk_walk.specs.Table.{AreRows}
use Rattle.mk_walk.proofs.table.table_of.Given as goal

abbrev pub invariant-loop-x : goal.invariant-loop-x
invariant-loop-x l = AreRows l.graph l.mol l.x l.fits.items
