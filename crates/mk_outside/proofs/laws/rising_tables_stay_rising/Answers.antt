use Rattle.mk_outside.proofs.TablesLemmas.{batch_rising}
use Rattle.mk_outside.proofs.laws.rising_tables_stay_rising.Goals as goal

pub returns : goal.returns
returns c = batch_rising
