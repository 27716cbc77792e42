use Rattle.std.proofs.Common.{◌≡◌, ◌++◌, length}
use Rattle.std.specs.Prelude.{codes}
use Rattle.std.specs.List.{flat_map}
use Rattle.mk_edits.specs.Records.{query_line}
use Rattle.mk_found.specs.Lines.{numbered_line}
use Rattle.mk_kept.specs.Saved.{rows_of}
use Rattle.mk_edits.proofs.records.put_queries.Given as goal

abbrev pub invariant-loop-name : goal.invariant-loop-name
invariant-loop-name l =
    l.text.items ++ flat_map query_line (rows_of l.name-iterator)
    ≡ l.fn.text.items ++ (numbered_line (codes "queries ") (length (rows_of l.queries.entries)) ++ flat_map query_line (rows_of l.queries.entries))
