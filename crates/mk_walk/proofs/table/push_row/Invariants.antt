use Rattle.mk_walk.proofs.TableLemmas.{IsCounted, IsRowTo}
use Rattle.mk_walk.proofs.table.push_row.Given as goal

abbrev pub invariant-loop-m : goal.invariant-loop-m
invariant-loop-m l = IsRowTo l.graph l.mol l.x l.m l.fits.items × IsCounted l.graph l.mol l.x l.m l.count
