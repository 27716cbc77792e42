use Rattle.std.proofs.Common.{arith, sym, ap, ◌∙◌}
use Rattle.mk_text.specs.Lines.{lines_of}
use Rattle.mk_tables.specs.TableLines.{Line}
use Rattle.mk_v3000.specs.LogicalLines.{is_logical, text_behind, ends_with_dash, piece_of}
use Rattle.mk_v3000.proofs.KeptLemmas.{logical_length}
use Rattle.mk_v3000.proofs.ReaderLemmas.{texts_more}
use Rattle.mk_v3000.proofs.logical_lines.logical_line_from.Goals as goal

pub text_behind-behind-requires : goal.text_behind-behind-requires
text_behind-behind-requires c = logical_length c.in-Some.line.now (sym c.is_logical.ensures ∙ c.if-not-is_logical.false)

pub loop-line-preserved : goal.loop-line-preserved
loop-line-preserved c =
    let lines = lines_of c.args.text.now in
    let line = c.in-Some.ensures in
    let behind = c.text_behind-behind.ensures in
    let logical = sym (ap is_logical line.line) ∙ sym c.is_logical.ensures ∙ c.if-not-is_logical.false in
    let dash = sym (ap (λ (l : Line). ends_with_dash (text_behind l)) line.line) ∙ sym (ap ends_with_dash behind) ∙ sym c.ends_with_dash.ensures ∙ c.if-not-ends_with_dash.false in
    let piece = c.piece_of.ensures ∙ ap piece_of (behind ∙ ap text_behind line.line) in
    record {
      start = line.start;
      order = omega (arith, line.next, c.loop-line.invariant.order);
      left = rw (line.next, c.in_ok-extend_from_slice.ensures.items, piece) (c.loop-line.invariant.left ∙ texts_more c.loop-line.joint.items lines c.loop-line.at.line _ line.there logical dash);
    }
