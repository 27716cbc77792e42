use Rattle.std.proofs.Common.{◌≡◌, take, map, filter, bytes_eq}
use Rattle.mk_query_edits.specs.Queries.{drop_of}
use Rattle.mk_kept.specs.Saved.{cursors_of}
use Rattle.mk_query_edits.proofs.queries.forget_changes.Given as goal

abbrev pub invariant-loop-row : goal.invariant-loop-row
invariant-loop-row l = l.changes.items ≡ map drop_of (filter (λ row. bytes_eq row.name l.name) (cursors_of (take l.row-index l.row-items)))
