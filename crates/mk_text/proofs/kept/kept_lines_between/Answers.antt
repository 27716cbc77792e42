use Rattle.std.proofs.Common.{◌≡◌, ◌++◌, ℕ, List, [], get_or, sym, ap, ◌∙◌, arith}
use Rattle.std.specs.Prelude.{slice_range}
use Rattle.mk_text.specs.KeptLines.{kept_lines, without_crs}
use Rattle.mk_text.specs.Lines.{ended, lines_of}
use Rattle.mk_text.proofs.KeptLinesLemmas.{kept_one_more}
use Rattle.mk_text.proofs.kept.kept_lines_between.Goals as goal

pub loop-i-preserved : goal.loop-i-preserved
loop-i-preserved c =
    let lines = lines_of c.args.text.now in
    let before = c.loop-i.invariant in
    let line : c.in-Some.line.now ≡ get_or lines c.loop-i.i [] = c.in-Some.ensures.line ∙ ap (λ (k : ℕ). get_or lines k []) before.counted in
    let there = c.in-Some.ensures.there in
    record {
      start = c.in-Some.ensures.start;
      counted = omega (arith, c.in-Some.ensures.next);
      so_far =
          c.in_ok-put_kept_line.ensures
          ∙ ap (λ (x : List ℕ). x ++ ended (without_crs c.in-Some.line.now)) before.so_far
          ∙ ap (λ (x : List ℕ). kept_lines (slice_range lines c.args.from.line c.loop-i.i) ++ ended (without_crs x)) line
          ∙ sym (kept_one_more lines c.args.from.line c.loop-i.i (omega arith) (omega arith));
    }
