use Rattle.std.proofs.Common.{length, arith}
use Rattle.mk_kept.proofs.NamesLemmas.{name_if, some_bytes}
use Rattle.mk_kept.proofs.names.is_name.Goals as goal

pub returns : goal.returns
returns c = name_if c.args.word.now _ (some_bytes (length c.args.word.now) c.if-is_empty.ensures) (omega arith) c.are_name_bytes.ensures
