use Rattle.std.proofs.Common.{sym, ap, ◌∙◌}
use Rattle.mk_text.specs.Lines.{lines_of}
use Rattle.mk_tables.specs.TableLines.{Line}
use Rattle.mk_v3000.specs.LogicalLines.{is_logical, text_behind, ends_with_dash}
use Rattle.mk_v3000.proofs.KeptLemmas.{logical_length}
use Rattle.mk_v3000.proofs.ReaderLemmas.{one_line}
use Rattle.mk_v3000.proofs.logical_lines.one_line_from.Goals as goal

pub text_behind-behind-requires : goal.text_behind-behind-requires
text_behind-behind-requires c = logical_length c.in_ok-line.line.now (sym c.is_logical.ensures ∙ c.if-not-is_logical.false)

pub returns-clause-value : goal.returns-clause-value
returns-clause-value c =
    let lines = lines_of c.args.text.now in
    let line = c.in_ok-line.ensures in
    let behind = c.text_behind-behind.ensures in
    let logical = sym (ap is_logical line.line) ∙ sym c.is_logical.ensures ∙ c.if-not-is_logical.false in
    let dash = sym (ap (λ (l : Line). ends_with_dash (text_behind l)) line.line) ∙ sym (ap ends_with_dash behind) ∙ sym c.ends_with_dash.ensures ∙ c.if-ends_with_dash.false in
    let text = behind ∙ ap text_behind line.line in
    record { takes = rw (line.next, text) (one_line lines c.args.at.line _ line.there logical dash); start = line.start }
