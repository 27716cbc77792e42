use Rattle.std.proofs.Common.{◌≡◌, ◌≤◌, ◌+◌, ◌-◌, ◌++◌, length, drop, All}
use Rattle.mk_text.specs.Lines.{words_of}
use Rattle.mk_text.specs.Spans.{AreApart, parts}
use Rattle.mk_text.proofs.SpanLemmas.{AreBefore}
use Rattle.mk_text.proofs.cutting.words.Given as goal

abbrev pub invariant-loop-from : goal.invariant-loop-from
invariant-loop-from l =
    record {
      inside : l.from ≤ length l.line + 1;
      so_far : parts l.line l.spans.items ++ words_of (drop l.from l.line) ≡ words_of l.line;
      within : All (λ s. (s.from ≤ s.to) × (s.to ≤ length l.line)) l.spans.items;
      apart : AreApart l.spans.items;
      before : AreBefore l.spans.items l.from;
    }

abbrev pub decreases-loop-from : goal.decreases-loop-from
decreases-loop-from l = length l.line + 1 - l.from
