use Rattle.std.proofs.Common.{◌≡◌, ◌≤◌, ◌+◌, ◌-◌, ◌++◌, length, drop, All}
use Rattle.mk_text.specs.Lines.{lines_of}
use Rattle.mk_text.specs.LineStart.{BeginLines}
use Rattle.mk_text.specs.Spans.{AreApart, parts}
use Rattle.mk_text.proofs.SpanLemmas.{AreBefore}
use Rattle.mk_text.proofs.cutting.lines.Given as goal

abbrev pub invariant-loop-from : goal.invariant-loop-from
invariant-loop-from l =
    record {
      inside : l.from ≤ length l.text + 1;
      so_far : parts l.text l.spans.items ++ lines_of (drop l.from l.text) ≡ lines_of l.text;
      within : All (λ s. (s.from ≤ s.to) × (s.to ≤ length l.text)) l.spans.items;
      apart : AreApart l.spans.items;
      before : AreBefore l.spans.items l.from;
      begin : BeginLines l.text l.spans.items;
      few : length l.spans.items ≤ l.from;
    }

abbrev pub decreases-loop-from : goal.decreases-loop-from
decreases-loop-from l = length l.text + 1 - l.from
