use Rattle.std.proofs.Common.{◌≡◌, ◌≤◌, ◌-◌, drop, length}
use Rattle.mk_text.specs.Lines.{lines_of}
use Rattle.mk_text.specs.LineStart.{IsLineStart}
use Rattle.mk_v3000.specs.Walking.{texts}
use Rattle.mk_v3000.proofs.ReaderLemmas.{read_behind}
use Rattle.mk_v3000.proofs.logical_lines.logical_line_from.Given as goal

abbrev pub invariant-loop-line : goal.invariant-loop-line
invariant-loop-line l = record {
  start : IsLineStart l.text l.at;
  order : l.fn.from.line ≤ l.at.line;
  left : texts.read (drop l.fn.from.line (lines_of l.text)) ≡ read_behind l.joint.items
      (drop l.at.line (lines_of l.text));
}

abbrev pub decreases-loop-line : goal.decreases-loop-line
decreases-loop-line l = length (lines_of l.text) - l.at.line
