use Rattle.std.proofs.Common.{◌≡◌, ◌+◌, drop}
use Rattle.std.specs.List.{prefix_len}
use Rattle.mk_text.specs.Columns.{is_space}
use Rattle.mk_text.proofs.columns.without_outer_blanks.Given as goal

abbrev pub invariant-loop-cell : goal.invariant-loop-cell
invariant-loop-cell l = (l.start ≡ l.cell-index) × (l.start + prefix_len is_space (drop l.start l.cells) ≡ prefix_len is_space l.cells)
