use Rattle.mk_laws.proofs.RestartsLemmas.{cut_run_goes_on}
use Rattle.mk_laws.proofs.restarts.cut_run_goes_on.Goals as goal

pub returns : goal.returns
returns g c =
    cut_run_goes_on g.D.Disk g.E.Disk (record {
      kept = c.kept_text_stays.ensures.kept;
      same = c.kept_text_is_the_query.ensures;
      reading = c.edits_keep_reading.ensures.reading;
      of_records = c.edits_keep_reading.ensures.of_records;
      alone = c.records_change_alone.ensures;
      fit = c.passed_queries_fit.ensures;
    }) c.files_are_found_again.ensures.crash
