use Rattle.std.proofs.Common.{◌≡◌, ◌++◌, length, take}
use Rattle.std.specs.Prelude.{codes}
use Rattle.std.specs.List.{flat_map}
use Rattle.mk_edits.specs.Records.{row_line}
use Rattle.mk_found.specs.Lines.{numbered_line}
use Rattle.mk_edits.proofs.records.put_rows.Given as goal

abbrev pub invariant-loop-row : goal.invariant-loop-row
invariant-loop-row l = l.text.items ≡ l.fn.text.items ++ (numbered_line (codes "records ") (length l.rows) ++ flat_map row_line (take l.row-index l.rows))
