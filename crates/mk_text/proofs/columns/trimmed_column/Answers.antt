use Rattle.std.proofs.Common.{sym, ◌∙◌, ap}
use Rattle.mk_text.specs.Columns.{trimmed}
use Rattle.mk_text.proofs.TrimLemmas.{trimmed-columns}
use Rattle.mk_text.proofs.columns.trimmed_column.Goals as goal

pub returns : goal.returns
returns c =
    c.without_outer_blanks.ensures ∙ ap trimmed c.column.ensures
    ∙ sym (trimmed-columns c.args.line.now c.args.from c.args.to c.requires.first c.requires.order)
