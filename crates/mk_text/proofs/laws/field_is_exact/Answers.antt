use Rattle.mk_text.proofs.FieldLemmas.{fields_are_read}
use Rattle.mk_text.proofs.laws.field_is_exact.Goals as goal

pub returns : goal.returns
returns c = fields_are_read
