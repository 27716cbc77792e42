use Rattle.mk_laws.proofs.OneRunLemmas.{one_effect, one_run}
use Rattle.mk_laws.proofs.laws.one_run.Goals as goal

pub returns-clause-effect : goal.returns-clause-effect
returns-clause-effect c =
    one_effect (record {
      queries = record {
        one_file = c.query_file_is_exact.ensures.one;
        bad = c.query_file_is_exact.ensures.bad;
        one_bad = c.query_file_is_exact.ensures.one_bad;
        one_query = c.one_query.ensures;
        one_fault = c.one_first_fault.ensures;
        no_fault = c.fault_or_query.ensures.not_both;
      };
      sdfile = c.sdfile_is_exact.ensures.one;
      one_bad = c.sdfile_is_exact.ensures.one_bad;
      fault = c.one_first_fault-2.ensures.one;
      no_fault = c.one_first_fault-2.ensures.none;
      filled = c.one_filled_molecule.ensures;
      drills = c.one_drill.ensures;
    })

pub returns-clause-run : goal.returns-clause-run
returns-clause-run c =
    one_run (record {
      queries = record {
        one_file = c.query_file_is_exact.ensures.one;
        bad = c.query_file_is_exact.ensures.bad;
        one_bad = c.query_file_is_exact.ensures.one_bad;
        one_query = c.one_query.ensures;
        one_fault = c.one_first_fault.ensures;
        no_fault = c.fault_or_query.ensures.not_both;
      };
      sdfile = c.sdfile_is_exact.ensures.one;
      one_bad = c.sdfile_is_exact.ensures.one_bad;
      fault = c.one_first_fault-2.ensures.one;
      no_fault = c.one_first_fault-2.ensures.none;
      filled = c.one_filled_molecule.ensures;
      drills = c.one_drill.ensures;
    })
