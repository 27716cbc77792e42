use Rattle.std.proofs.Common.{◌++◌, ℕ, List, get_or, sym, ap, ◌∙◌}
use Rattle.std.specs.Prelude.{slice_range}
use Rattle.mk_text.specs.KeptLines.{without_crs}
use Rattle.mk_text.specs.Lines.{ended}
use Rattle.mk_text.proofs.KeptLinesLemmas.{kept_more}
use Rattle.mk_text.proofs.kept.kept_lines.Goals as goal

pub loop-line-preserved : goal.loop-line-preserved
loop-line-preserved c =
    let text = c.args.text.now in
    let lines = c.args.lines.now in
    let i = c.loop-line.line-index in
    let line = get_or lines i (record { from = 0; to = 0 }) in
    c.in_ok-put_kept_line.ensures
    ∙ ap (λ (x : List ℕ). x ++ ended (without_crs (slice_range text line.from line.to))) c.loop-line.invariant
    ∙ sym (kept_more text lines i (record { from = 0; to = 0 }) c.loop-line-test.true)
