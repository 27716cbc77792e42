use Rattle.std.proofs.Common.{◌≤◌, ◌-◌, map}
use Rattle.mk_expansions.specs.Starts.{first_number}
use Rattle.mk_rtable.specs.Table.{numbers_of_row}
use Rattle.mk_rtable.proofs.RecordsLemmas.{HasRowsTo}
use Rattle.mk_rtable.proofs.table.rows_left.Given as goal

abbrev pub invariant-loop-rows : goal.invariant-loop-rows
invariant-loop-rows g l = record {
  so_far : HasRowsTo l.fn.hits.rows l.query l.hits (map numbers_of_row l.rows.items) l.fn.steps l.steps;
  steps : l.fn.steps ≤ l.steps;
}

abbrev pub decreases-loop-rows : goal.decreases-loop-rows
decreases-loop-rows g l = 4294967296 - first_number l.hits.place
