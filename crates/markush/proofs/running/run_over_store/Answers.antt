use Rattle.markush.proofs.RunsLemmas.{over_store}
use Rattle.markush.proofs.running.run_over_store.Goals as goal

pub returns-clause-runs : goal.returns-clause-runs
returns-clause-runs g c = over_store _ _ _ _ _ c.at-store.result.faults c.run_over.new.store.faults _ _ c.at-store.ensures.faults c.run_over.ensures.runs
