use Rattle.mk_rgfile.proofs.KeptQueryLemmas.{kept_is_kept, kept_stays}
use Rattle.mk_rgfile.proofs.query_laws.kept_text_stays.Goals as goal

pub returns-clause-kept : goal.returns-clause-kept
returns-clause-kept c = kept_is_kept

pub returns-clause-same : goal.returns-clause-same
returns-clause-same c = kept_stays
