use Rattle.mk_query.proofs.QueryLemmas.{fits_query}
use Rattle.mk_query.proofs.laws.passed_queries_fit.Goals as goal

pub returns : goal.returns
returns c = λ raw query is of passes. fits_query raw is passes.in_tables query.templates of.templates query.groups of.groups passes.across
