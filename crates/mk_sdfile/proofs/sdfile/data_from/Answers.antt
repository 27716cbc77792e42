use Rattle.std.proofs.Common.{arith, sym, ap, ◌∙◌}
use Rattle.mk_text.specs.Lines.{lines_of}
use Rattle.mk_sdfile.specs.Sdfile.{is_separator}
use Rattle.mk_sdfile.proofs.SdfileStepsLemmas.{data_more}
use Rattle.mk_sdfile.proofs.sdfile.data_from.Goals as goal

pub loop-line-preserved : goal.loop-line-preserved
loop-line-preserved c =
    let lines = lines_of c.args.text.now in
    let before = c.loop-line.invariant in
    let line = c.in-Some.ensures in
    let goes = sym (ap is_separator line.line) ∙ sym c.is_separator.ensures ∙ c.if-is_separator.false in
    record {
      start = line.start;
      order = omega (arith, line.next);
      none = rw line.next (data_more lines c.args.from.line c.loop-line.at.line before.order line.there before.none goes);
    }
