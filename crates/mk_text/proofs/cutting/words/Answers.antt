use Rattle.std.proofs.Common.{arith, ◌<◌, ◌+◌, ◌++◌, ℕ, List, length, drop, sym, ap, ◌∙◌}
use Rattle.std.proofs.lemmas.List.{append-nil}
use Rattle.mk_text.specs.declared.cutting.Span.{Span}
use Rattle.mk_text.specs.Lines.{words_of}
use Rattle.mk_text.specs.Spans.{parts}
use Rattle.mk_text.proofs.PieceLemmas.{word_by, words_none, words_skip, one_more}
use Rattle.mk_text.proofs.SpanLemmas.{apart_more, before_later, before_more, within_more}
use Rattle.mk_text.proofs.cutting.words.Goals as goal
use Rattle.mk_text.proofs.cutting.words.Goals.{then-from-to+in_ok-push, else-from-to}

pub loop-from-preserved : goal.loop-from-preserved
loop-from-preserved c =
    let line = c.args.line.now in
    let inv = c.loop-from.invariant in
    let spans = c.loop-from.spans.items in
    let from = c.loop-from.from in
    let to = c.first_from-to.result in
    let found = c.first_from-to.ensures in
    elim c.if-from-to.branch [
      | then-from-to+in_ok-push w ↦
          let s : Span = record { from = from; to = to } in
          let left = word_by line from to w.if-from-to.true found.within found.none found.found in
          rw (w.spans-is, w.in_ok-push.ensures.items) record {
            inside = omega arith;
            so_far = one_more line spans s (words_of (drop from line)) (words_of (drop (to + 1) line)) (words_of line) inv.so_far left;
            within = within_more line spans s inv.within found.order found.within;
            apart = apart_more spans s inv.apart inv.before;
            before = before_more spans s (to + 1) inv.before (omega arith) (omega arith);
          }
      | else-from-to w ↦
          let below : to < length line = omega arith in
          let skip = words_skip line from to (omega arith) below (found.found below) in
          rw w.spans-is record {
            inside = omega arith;
            so_far = ap (λ (ts : List (List ℕ)). parts line spans ++ ts) (sym skip) ∙ inv.so_far;
            within = inv.within;
            apart = inv.apart;
            before = before_later spans from (to + 1) inv.before (omega arith);
          }
    ]

pub returns-clause-words : goal.returns-clause-words
returns-clause-words c =
    let line = c.args.line.now in
    let spans = c.loop-from.spans.items in
    sym (append-nil (parts line spans))
    ∙ ap (λ (ts : List (List ℕ)). parts line spans ++ ts) (sym (words_none line c.loop-from.from c.loop-from-test.false))
    ∙ c.loop-from.invariant.so_far
