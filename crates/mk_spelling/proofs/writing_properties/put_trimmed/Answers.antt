use Rattle.std.proofs.Common.{refl, ap, ◌∙◌, length}
use Rattle.mk_text.specs.Columns.{trimmed}
use Rattle.mk_spelling.proofs.StandingLemmas.{columns_whole}
use Rattle.mk_spelling.proofs.AppendLemmas.{as_text, ended_last}
use Rattle.mk_spelling.proofs.writing_properties.put_trimmed.Goals as goal

pub returns : goal.returns
returns c =
    ended_last c.extend_from_slice-2.result c.args.out.now.items c.extend_from_slice.new.self.items c.extend_from_slice-2.new.self.items (trimmed c.args.line.now) c.extend_from_slice-2.ensures.items
    (as_text c.args.out.now.items c.extend_from_slice.new.self.items c.trimmed_column.result.now (trimmed c.args.line.now)
    (c.trimmed_column.ensures ∙ ap trimmed (columns_whole c.args.line.now (length c.args.line.now) refl)) c.in_ok-extend_from_slice.ensures.items)
