use Rattle.mk_enum.proofs.SdfileLemmas.{are_an_sdfile}
use Rattle.mk_enum.proofs.laws.structures_are_an_sdfile.Goals as goal

pub returns : goal.returns
returns c = are_an_sdfile
