use Rattle.mk_rgfile.proofs.KeptQueryLemmas.{query_left}
use Rattle.mk_rgfile.proofs.query_laws.kept_lines_are_the_query.Goals as goal

pub returns : goal.returns
returns c = query_left
