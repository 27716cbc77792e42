use Rattle.std.proofs.Common.{◌≡◌, ◌-◌, drop, length}
use Rattle.mk_form.proofs.RowLoops.{with_front}
use Rattle.mk_text.specs.Lines.{lines_of}
use Rattle.mk_text.specs.LineStart.{IsLineStart}
use Rattle.mk_sdfile.specs.SdfileReading.{sdfile_at}
use Rattle.mk_sdfile.proofs.sdfile.records_from.Given as goal

abbrev pub invariant-loop-first : goal.invariant-loop-first
invariant-loop-first l = record { start : IsLineStart l.text l.at; so_far : with_front l.records.items (sdfile_at (drop l.at.line (lines_of l.text))) ≡ sdfile_at (lines_of l.text) }

abbrev pub decreases-loop-first : goal.decreases-loop-first
decreases-loop-first l = length (lines_of l.text) - l.at.line
