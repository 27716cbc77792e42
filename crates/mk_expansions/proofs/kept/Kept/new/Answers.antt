use Rattle.mk_expansions.proofs.KeptLemmas.{none_kept}
use Rattle.mk_expansions.proofs.kept.Kept.new.Goals as goal

pub returns : goal.returns
returns c = λ query. record {
  young = none_kept query c.new.result.entries c.new.ensures.empty;
  elder = none_kept query c.new-2.result.entries c.new-2.ensures.empty;
}
