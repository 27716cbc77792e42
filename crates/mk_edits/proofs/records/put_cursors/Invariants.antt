use Rattle.std.proofs.Common.{◌≡◌, ◌++◌, length, take}
use Rattle.std.specs.Prelude.{codes}
use Rattle.std.specs.List.{flat_map}
use Rattle.mk_edits.specs.Records.{cursor_line}
use Rattle.mk_found.specs.Lines.{numbered_line}
use Rattle.mk_kept.specs.Saved.{cursors_of}
use Rattle.mk_edits.proofs.records.put_cursors.Given as goal

abbrev pub invariant-loop-row : goal.invariant-loop-row
invariant-loop-row l =
    l.text.items ≡ l.fn.text.items ++ (numbered_line (codes "cursors ") (length (cursors_of l.rows)) ++ flat_map cursor_line (cursors_of (take l.row-index l.rows)))
