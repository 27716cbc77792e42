use Rattle.mk_library.proofs.PendingLemmas.{records_alone}
use Rattle.mk_library.proofs.laws.records_change_alone.Goals as goal

pub returns : goal.returns
returns c = records_alone
