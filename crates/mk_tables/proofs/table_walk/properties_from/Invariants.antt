use Rattle.std.proofs.Common.{◌-◌, length}
use Rattle.mk_text.specs.Lines.{lines_of}
use Rattle.mk_text.specs.LineStart.{IsLineStart}
use Rattle.mk_tables.proofs.ReaderLemmas.{PropertiesLeft}
use Rattle.mk_tables.proofs.table_walk.properties_from.Given as goal

abbrev pub invariant-loop-line : goal.invariant-loop-line
invariant-loop-line l = record { start : IsLineStart l.text l.at; left : PropertiesLeft (lines_of l.text) l.fn.from.line l.props l.at.line }

abbrev pub decreases-loop-line : goal.decreases-loop-line
decreases-loop-line l = length (lines_of l.text) - l.at.line
