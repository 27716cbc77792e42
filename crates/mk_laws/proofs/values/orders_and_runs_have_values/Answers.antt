use Rattle.mk_laws.proofs.EffectValueLemmas.{some_effect}
use Rattle.mk_laws.proofs.KeptValueLemmas.{effect_keeps}
use Rattle.mk_laws.proofs.RunValueLemmas.{all_read_or_bad, some_run}
use Rattle.mk_laws.proofs.values.orders_and_runs_have_values.Goals as goal

pub returns-clause-effect : goal.returns-clause-effect
returns-clause-effect c = some_effect

pub returns-clause-kept : goal.returns-clause-kept
returns-clause-kept c = effect_keeps

pub returns-clause-rows : goal.returns-clause-rows
returns-clause-rows c =
    all_read_or_bad (record {
      one_file = c.query_file_is_exact.ensures.one;
      bad = c.query_file_is_exact.ensures.bad;
      one_bad = c.query_file_is_exact.ensures.one_bad;
      one_query = c.one_query.ensures;
      one_fault = c.one_first_fault.ensures;
      no_fault = c.fault_or_query.ensures.not_both;
    })

pub returns-clause-run : goal.returns-clause-run
returns-clause-run c =
    some_run (record {
      one_file = c.query_file_is_exact.ensures.one;
      bad = c.query_file_is_exact.ensures.bad;
      one_bad = c.query_file_is_exact.ensures.one_bad;
      one_query = c.one_query.ensures;
      one_fault = c.one_first_fault.ensures;
      no_fault = c.fault_or_query.ensures.not_both;
    })
