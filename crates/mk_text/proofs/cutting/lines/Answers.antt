use Rattle.std.proofs.Common.{arith, ◌+◌, ◌++◌, ◌∷◌, ℕ, List, drop, sym, ap, ◌∙◌}
use Rattle.std.proofs.lemmas.List.{append-nil, length_push}
use Rattle.mk_text.specs.declared.cutting.Span.{Span}
use Rattle.mk_text.specs.Lines.{lines_of}
use Rattle.mk_text.specs.Spans.{parts}
use Rattle.mk_text.proofs.LineStartLemmas.{starts_here, begin_more}
use Rattle.mk_text.proofs.PieceLemmas.{line_by, lines_none, one_more}
use Rattle.mk_text.proofs.SpanLemmas.{apart_more, before_more, within_more}
use Rattle.mk_text.proofs.cutting.lines.Goals as goal

pub loop-from-preserved : goal.loop-from-preserved
loop-from-preserved c =
    let text = c.args.text.now in
    let inv = c.loop-from.invariant in
    let spans = c.loop-from.spans.items in
    let from = c.loop-from.from in
    let lf = c.first_from-lf.result in
    let found = c.first_from-lf.ensures in
    let line = c.end_of_line-to.ensures in
    let s : Span = record { from = from; to = c.end_of_line-to.result } in
    let left = line_by text from lf c.loop-from-test.true found.order found.within found.none found.found
    ∙ ap (λ (p : List ℕ). p ∷ lines_of (drop (lf + 1) text)) (sym line.line) in
    rw c.in_ok-push.ensures.items record {
      inside = omega arith;
      so_far = one_more text spans s (lines_of (drop from text)) (lines_of (drop (lf + 1) text)) (lines_of text) inv.so_far left;
      within = within_more text spans s inv.within line.order (omega arith);
      apart = apart_more spans s inv.apart inv.before;
      before = before_more spans s (lf + 1) inv.before (omega arith) (omega arith);
      begin = begin_more text spans s inv.begin (starts_here text spans from inv.so_far (omega arith) inv.few);
      few = omega (arith, length_push spans s, inv.few);
    }

pub returns-clause-lines : goal.returns-clause-lines
returns-clause-lines c =
    let text = c.args.text.now in
    let spans = c.loop-from.spans.items in
    sym (append-nil (parts text spans))
    ∙ ap (λ (ts : List (List ℕ)). parts text spans ++ ts) (sym (lines_none text c.loop-from.from c.loop-from-test.false))
    ∙ c.loop-from.invariant.so_far
