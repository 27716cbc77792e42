use Rattle.mk_sdfile.proofs.SdfileTextLemmas.{text_is_its_record}
use Rattle.mk_sdfile.proofs.sdfile_laws.text_is_its_record.Goals as goal

pub returns : goal.returns
returns c = text_is_its_record
