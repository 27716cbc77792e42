use Rattle.std.proofs.Common.{sym}
use Rattle.mk_words.proofs.CommandPartsLemmas.{name_as_file}
use Rattle.mk_words.proofs.command_parts.name_in.Goals as goal

pub returns : goal.returns
returns c = rw (name_as_file c.args.word.now (sym c.if-not-is_name.ensures)) at c.file_in.ensures
